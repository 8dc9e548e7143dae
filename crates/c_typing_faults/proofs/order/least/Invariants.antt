use Rattle.std.proofs.Common.{◌≡◌, take}
use Rattle.c_typing_faults.specs.Faults as spec
use Rattle.c_typing_faults.proofs.order.least.Given as goal

abbrev pub invariant-loop-fault : goal.invariant-loop-fault
invariant-loop-fault l = l.found ≡ spec.head (spec.sort_faults (take l.fault-index l.faults))
