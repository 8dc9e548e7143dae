-- The code so far is that of the front of the list.
use Rattle.std.proofs.Common.{take}
use Rattle.lowering.specs.Lowered.{AreLowered}
use Rattle.lowering.proofs.units.all_functions.Given as goal

abbrev pub invariant-loop-f : goal.invariant-loop-f
invariant-loop-f l = AreLowered l.structs (take l.f-index l.list) l.functions
