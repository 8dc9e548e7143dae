-- What was summed so far is the front of the list.
use Rattle.std.proofs.Common.{◌≡◌, ◌-◌, ◌^◌, min, sum_by, take}
use Rattle.c_typed_tree.specs.Rooms.{local_bytes}
use Rattle.c_typing_weight.proofs.locals.locals_bytes.Given as goal

abbrev pub invariant-loop-local : goal.invariant-loop-local
invariant-loop-local l = l.total ≡ min (sum_by (local_bytes l.structs) (take l.local-index l.local-items)) (2 ^ 64 - 1)
