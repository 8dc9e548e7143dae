use Rattle.c_typing_faults.proofs.Sorted.{least-more}
use Rattle.c_typing_faults.proofs.order.least.Goals as goal

pub loop-fault-preserved : goal.loop-fault-preserved
loop-fault-preserved c =
    least-more c.args.faults.now c.loop-fault.fault-index _ c.loop-fault.found c.earlier.result c.loop-fault-test.true
    c.loop-fault.invariant c.earlier.ensures
