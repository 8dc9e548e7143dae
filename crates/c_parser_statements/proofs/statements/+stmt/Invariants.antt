use Rattle.std.proofs.Common.{◌≡◌, [], length, ◌+◌, ◌-◌, ◌*◌}
use Rattle.c_parser_grammar.specs.ParseStatements.{items_from, stmts_from, sections_from, stmt}
use Rattle.c_parser_statements.proofs.statements.+stmt.Given as goal

abbrev pub invariant-items-loop-turn : goal.invariant-items-loop-turn
invariant-items-loop-turn l = items_from l.scope l.depth (stmt l.scope l.inner) (length l.fn.tokens) [] l.fn.tokens ≡ items_from l.scope l.depth (stmt l.scope l.inner) (l._turn-end - l._turn) l.found l.tokens

abbrev pub invariant-stmts-loop-turn : goal.invariant-stmts-loop-turn
invariant-stmts-loop-turn l = stmts_from l.scope l.depth (stmt l.scope l.inner) (length l.fn.tokens) [] l.fn.tokens ≡ stmts_from l.scope l.depth (stmt l.scope l.inner) (l._turn-end - l._turn) l.found l.tokens

abbrev pub invariant-sections-loop-turn : goal.invariant-sections-loop-turn
invariant-sections-loop-turn l = sections_from l.scope l.depth (stmt l.scope l.inner) (length l.fn.tokens) [] l.fn.tokens ≡ sections_from l.scope l.depth (stmt l.scope l.inner) (l._turn-end - l._turn) l.found l.tokens

abbrev pub decreases-stmt : goal.decreases-stmt
decreases-stmt l = 10 * l.depth

abbrev pub decreases-items : goal.decreases-items
decreases-items l = 10 * l.inner + 1

abbrev pub decreases-stmts : goal.decreases-stmts
decreases-stmts l = 10 * l.inner + 1

abbrev pub decreases-section : goal.decreases-section
decreases-section l = 10 * l.inner + 2

abbrev pub decreases-sections : goal.decreases-sections
decreases-sections l = 10 * l.inner + 3

abbrev pub decreases-alternative : goal.decreases-alternative
decreases-alternative l = 10 * l.inner + 1

abbrev pub decreases-if_behind : goal.decreases-if_behind
decreases-if_behind l = 10 * l.inner + 2

abbrev pub decreases-while_behind : goal.decreases-while_behind
decreases-while_behind l = 10 * l.inner + 1

abbrev pub decreases-do_behind : goal.decreases-do_behind
decreases-do_behind l = 10 * l.inner + 1

abbrev pub decreases-for_behind : goal.decreases-for_behind
decreases-for_behind l = 10 * l.inner + 1

abbrev pub decreases-switch_behind : goal.decreases-switch_behind
decreases-switch_behind l = 10 * l.inner + 4

abbrev pub decreases-block : goal.decreases-block
decreases-block l = 10 * l.inner + 2
