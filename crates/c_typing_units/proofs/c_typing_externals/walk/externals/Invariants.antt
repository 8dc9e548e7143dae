use Rattle.std.proofs.Common.{◌≡◌, drop}
use Rattle.c_typing_units.specs.c_typing_externals.Externals as spec
use Rattle.c_typing_units.proofs.c_typing_externals.walk.externals.Given as goal

abbrev pub invariant-loop-e : goal.invariant-loop-e
invariant-loop-e l =
    spec.externals l.definitions l.list (l.fn.unit, (l.fn.defined, (l.fn.env, l.fn.notes)))
    ≡ spec.externals l.definitions (drop l.e-index l.list) (l.unit, (l.defined, (l.env, l.notes)))
