-- The objects so far are those of the front of the locals.
use Rattle.std.proofs.Common.{◌≡◌, take}
use Rattle.lowering_code.specs.Functions.{objects_of}
use Rattle.lowering_functions.proofs.memory.objects.Given as goal

abbrev pub invariant-loop-local : goal.invariant-loop-local
invariant-loop-local l = l.objects ≡ objects_of l.structs (take l.local-index l.locals)
