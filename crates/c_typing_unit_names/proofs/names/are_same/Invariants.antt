use Rattle.std.proofs.Common.{◌≡◌, drop}
use Rattle.c_typing_unit_names.specs.UnitNames as spec
use Rattle.c_typing_unit_names.proofs.names.are_same.Given as goal

abbrev pub invariant-loop-x : goal.invariant-loop-x
invariant-loop-x l = spec.are_same l.a l.b ≡ spec.are_same (drop l.x-index l.a) l.rest
