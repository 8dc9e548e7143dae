use Rattle.std.proofs.Common.{map, refl, get_or, false}
use Rattle.cfg.specs.Renumber.{renumber}
use Rattle.cfg.proofs.Blocks.{kept_more}
use Rattle.cfg.proofs.renumber.marked_blocks.Goals as goal

pub loop-block-preserved : goal.loop-block-preserved
loop-block-preserved g c =
    kept_more (map (renumber g.I.Insn.targets g.I.Insn.with_target c.args.numbers.now)) c.args.marks.now c.args.blocks _ _ c.loop-block.kept _ c.loop-block.number (get_or c.args.marks.now c.loop-block.number false) c.in-Some.block c.loop-block.invariant c.in-Some.ensures.steps.0 c.requires.count refl c.in_ok-keep_block.ensures
