-- What was copied so far is the front of the list.
use Rattle.std.proofs.Common.{◌≡◌, take}
use Rattle.c_typed_tree.proofs.copy_statements.+statement.Given as goal

abbrev pub invariant-copy_stmts-loop-statement : goal.invariant-copy_stmts-loop-statement
invariant-copy_stmts-loop-statement l = l.copies ≡ take l.statement-index l.statement-items

abbrev pub invariant-copy_sections-loop-section : goal.invariant-copy_sections-loop-section
invariant-copy_sections-loop-section l = l.copies ≡ take l.section-index l.section-items
