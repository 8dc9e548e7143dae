-- What was summed so far is the front of the list.
use Rattle.std.proofs.Common.{◌≡◌, ◌+◌, ◌-◌, ◌^◌, min, sum_by, take}
use Rattle.c_typed_tree.specs.Weight.{function_weight}
use Rattle.c_typing_weight.proofs.units.weight.Given as goal

abbrev pub invariant-loop-function : goal.invariant-loop-function
invariant-loop-function l = l.total ≡ min (1 + sum_by (λ f. 1 + function_weight l.unit.structs f) (take l.function-index l.function-items)) (2 ^ 64 - 1)
