-- The greatest so far is that of the front of the list.
use Rattle.std.proofs.Common.{◌≡◌, ◌-◌, ◌^◌, min, take}
use Rattle.c_typed_tree.specs.Rooms.{greatest_locals}
use Rattle.c_typing_weight.proofs.units.greatest_locals.Given as goal

abbrev pub invariant-loop-function : goal.invariant-loop-function
invariant-loop-function l = l.greatest ≡ min (greatest_locals l.structs (take l.function-index l.functions)) (2 ^ 64 - 1)
