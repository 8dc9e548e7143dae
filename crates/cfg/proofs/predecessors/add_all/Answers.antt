use Rattle.std.proofs.Common.{◌∙◌}
use Rattle.cfg.proofs.Sources.{blocks_step}
use Rattle.cfg.proofs.predecessors.add_all.Goals as goal

pub loop-number-preserved : goal.loop-number-preserved
loop-number-preserved c =
    blocks_step _ _ _ c.loop-number.number _ c.index-followers-number.result c.args.followers.now c.in_ok-add_edges.ensures c.loop-number.auto.lists c.loop-number.invariant (c.as_slice.ensures ∙ c.index-followers-number.is) c.loop-number-test.true
