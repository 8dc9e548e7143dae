use Rattle.cfg_edges.proofs.Splits.{put_more}
use Rattle.cfg_edges.proofs.pieces.put_all.Goals as goal

pub loop-block-preserved : goal.loop-block-preserved
loop-block-preserved g c =
    put_more g.I.Insn.targets g.I.Insn.with_target g.I.Insn.jump_to c.args.numbers.now c.args.splits.now c.args.blocks _ _ c.loop-block.put _ c.loop-block.number c.in-Some.block c.loop-block.invariant c.in-Some.ensures.steps.0 c.requires.count c.in_ok-put_block.ensures
