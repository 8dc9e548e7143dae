-- What was summed so far is the front of the list.
use Rattle.std.proofs.Common.{◌≡◌, ◌-◌, ◌^◌, min, map, sum_by, take}
use Rattle.c_typed_tree.specs.View.{local_view}
use Rattle.c_typed_tree.specs.Weight.{declared_weight}
use Rattle.c_typing_weight.proofs.statements.locals_weight.Given as goal

abbrev pub invariant-loop-local : goal.invariant-loop-local
invariant-loop-local l = l.total ≡ min (sum_by (declared_weight l.structs) (map local_view (take l.local-index l.local-items))) (2 ^ 64 - 1)
