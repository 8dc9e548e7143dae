use Rattle.c_tree_text.proofs.Lines.{spellings_text-more}
use Rattle.c_tree_text.proofs.print.spellings_text.Goals as goal

pub loop-spelling-preserved : goal.loop-spelling-preserved
loop-spelling-preserved c =
    spellings_text-more _ _ _ _ _ _ _ c.loop-spelling-test.true c.spelling-item.is c.loop-spelling.invariant c.in_ok-push.ensures.items c.in_ok-extend_from_slice.ensures.items c.as_slice.ensures
