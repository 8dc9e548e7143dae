-- What stands below the counter has been rewritten. Heights fall along the calls.
use Rattle.std.proofs.Common.{◌+◌, ◌*◌}
use Rattle.c_typed_tree.specs.c_typed_height.Heights.{stmt_height, else_height, stmts_height, sections_height}
use Rattle.c_typed_tree.specs.View.{stmt_view}
use Rattle.c_typed_tree.specs.model.View.{stmts_view}
use Rattle.c_typed_tree.specs.model.Lists.{sections_view, else_view}
use Rattle.c_rewrite.specs.Rewritten.{rewritten}
use Rattle.c_rewrite.specs.model.Mixed.{Replaced}
use Rattle.c_rewrite.proofs.StatementViews.{StmtDone, SectionDone}
use Rattle.c_rewrite.proofs.rewrite_statements.+statement.Given as goal

abbrev pub decreases-rewrite_statement : goal.decreases-rewrite_statement
decreases-rewrite_statement l = 4 * stmt_height (stmt_view l.s)

abbrev pub decreases-rewrite_body : goal.decreases-rewrite_body
decreases-rewrite_body l = 4 * stmt_height (stmt_view l.s) + 1

abbrev pub decreases-rewrite_else : goal.decreases-rewrite_else
decreases-rewrite_else l = 4 * else_height (else_view l.otherwise) + 2

abbrev pub decreases-rewrite_list : goal.decreases-rewrite_list
decreases-rewrite_list l = 4 * stmts_height (stmts_view l.list) + 2

abbrev pub decreases-rewrite_section : goal.decreases-rewrite_section
decreases-rewrite_section l = 4 * stmts_height (stmts_view l.section.statements) + 3

abbrev pub decreases-rewrite_sections : goal.decreases-rewrite_sections
decreases-rewrite_sections l = 4 * sections_height (sections_view l.list) + 1

abbrev pub invariant-rewrite_list-loop-i : goal.invariant-rewrite_list-loop-i
invariant-rewrite_list-loop-i l = Replaced (StmtDone (rewritten l.locals)) l.i l.fn.list l.items.items

abbrev pub invariant-rewrite_sections-loop-i : goal.invariant-rewrite_sections-loop-i
invariant-rewrite_sections-loop-i l = Replaced (SectionDone (rewritten l.locals)) l.i l.fn.list l.items.items
