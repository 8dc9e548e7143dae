-- What was copied so far is the front of the list.
use Rattle.std.proofs.Common.{◌≡◌, take}
use Rattle.temp_ir.proofs.copy.copy_blocks.Given as goal

abbrev pub invariant-loop-block : goal.invariant-loop-block
invariant-loop-block l = l.copies ≡ take l.block-index l.blocks
