use Rattle.cfg.proofs.Lists.{lists_step}
use Rattle.cfg.proofs.successors.successor_lists.Goals as goal

pub loop-number-preserved : goal.loop-number-preserved
loop-number-preserved g c =
    lists_step _ _ _ _ _ _ _ _ c.in_ok-push.ensures.ok c.loop-number.invariant c.in_ok-followers.ensures c.loop-number-test.true c.index-blocks-number.is
