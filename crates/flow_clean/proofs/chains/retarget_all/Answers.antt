use Rattle.std.proofs.Common.{◌+◌, map, refl, sym, ap, ◌∙◌, arith}
use Rattle.flow_clean.specs.Chains.{retargeted}
use Rattle.flow_clean.proofs.ChainFunctions.{one_retargeted}
use Rattle.flow_clean.proofs.chains.retarget_all.Goals as goal

pub loop-at-preserved : goal.loop-at-preserved
loop-at-preserved c =
    one_retargeted c.args.ends.now c.args.blocks.now c.loop-at.blocks c.loop-at.at (c.loop-at.at + 1) c.index-blocks-at.result c.renumber_block.new.block
    c.loop-at.invariant refl (omega arith) c.index-blocks-at.is
    (c.renumber_block.ensures ∙ ap (map (retargeted c.args.ends.now)) (sym c.index-blocks-at.is))
