use Rattle.alloc_journal.proofs.Tables.{soonest_next}
use Rattle.alloc_journal.proofs.gone.soonest.Goals as goal

pub loop-r-preserved : goal.loop-r-preserved
loop-r-preserved c =
    soonest_next c.args.from c.args.found c.loop-r.best c.sooner-best.result c.gone_from.result c.args.before.now c.args.behind.now
    c.loop-r.r c.gone_from.ensures c.sooner-best.ensures c.loop-r.invariant
