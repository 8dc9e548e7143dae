use Rattle.std.proofs.Common.{◌≡◌, drop}
use Rattle.c_typing_definitions.specs.Definitions as spec
use Rattle.c_typing_definitions.proofs.names.find_definitions.Given as goal

abbrev pub invariant-loop-external : goal.invariant-loop-external
invariant-loop-external l = spec.definitions l.externals ≡ spec.defined_behind (drop l.external-index l.externals) l.found
