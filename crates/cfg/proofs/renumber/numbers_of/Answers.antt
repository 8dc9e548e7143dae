use Rattle.std.proofs.Common.{refl, get_or, false}
use Rattle.cfg.proofs.Blocks.{counted_more}
use Rattle.cfg.proofs.renumber.numbers_of.Goals as goal

pub loop-mark-preserved : goal.loop-mark-preserved
loop-mark-preserved c =
    counted_more c.args.marks.now c.loop-mark.numbers.items _ c.loop-mark.next _ c.loop-mark.mark-index (get_or c.args.marks.now c.loop-mark.mark-index false) c.loop-mark.invariant c.loop-mark-test.true refl c.in_ok-push.ensures.items c.number_behind-next.ensures
