use Rattle.std.proofs.Common.{◌≡◌, drop}
use Rattle.c_typing_units.specs.Undefined.{with_uses}
use Rattle.c_typing_units.proofs.undefined.add_uses.Given as goal

abbrev pub invariant-loop-one : goal.invariant-loop-one
invariant-loop-one l = with_uses l.uses l.fn.faults ≡ with_uses (drop l.one-index l.uses) l.faults
