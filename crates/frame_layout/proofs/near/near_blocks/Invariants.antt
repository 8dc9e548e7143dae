-- The blocks so far.
use Rattle.std.proofs.Common.{◌≡◌, take}
use Rattle.frame_emitter.specs.Settings.{near_blocks}
use Rattle.frame_layout.proofs.near.near_blocks.Given as goal

abbrev pub invariant-loop-block : goal.invariant-loop-block
invariant-loop-block l = l.lists ≡ near_blocks (take l.block-index l.blocks)
