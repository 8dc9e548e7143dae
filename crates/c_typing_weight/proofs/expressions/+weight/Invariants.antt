-- What was summed so far is the front of the list.
use Rattle.std.proofs.Common.{◌≡◌, ◌-◌, ◌^◌, min, take}
use Rattle.c_typed_tree.specs.model.View.{exprs_view}
use Rattle.c_typed_tree.specs.Weight.{exprs_weight}
use Rattle.c_typing_weight.proofs.expressions.+weight.Given as goal

abbrev pub invariant-exprs_weight-loop-e : goal.invariant-exprs_weight-loop-e
invariant-exprs_weight-loop-e l = l.total ≡ min (exprs_weight l.structs (exprs_view (take l.e-index l.e-items))) (2 ^ 64 - 1)
