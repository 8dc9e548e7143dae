use Rattle.cfg.proofs.Searching.{visits_more}
use Rattle.cfg.proofs.search.visit_all.Goals as goal

pub loop-block-preserved : goal.loop-block-preserved
loop-block-preserved c = visits_more _ _ _ c.args.blocks.now c.loop-block.block-index c.loop-block.invariant c.loop-block-test.true c.in_ok-visit.ensures
