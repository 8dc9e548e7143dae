-- What was summed so far is the front of the list.
use Rattle.std.proofs.Common.{◌≡◌, ◌-◌, ◌^◌, min, take}
use Rattle.c_typed_tree.specs.model.View.{stmts_view}
use Rattle.c_typed_tree.specs.Weight.{stmts_weight, sections_weight}
use Rattle.c_typed_tree.specs.model.Lists.{sections_view}
use Rattle.c_typing_weight.proofs.statements.+weight.Given as goal

abbrev pub invariant-stmts_weight-loop-statement : goal.invariant-stmts_weight-loop-statement
invariant-stmts_weight-loop-statement l = l.total ≡ min (stmts_weight l.structs (stmts_view (take l.statement-index l.statement-items))) (2 ^ 64 - 1)

abbrev pub invariant-sections_weight-loop-section : goal.invariant-sections_weight-loop-section
invariant-sections_weight-loop-section l = l.total ≡ min (sections_weight l.structs (sections_view (take l.section-index l.section-items))) (2 ^ 64 - 1)
