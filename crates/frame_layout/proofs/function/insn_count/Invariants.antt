-- The instructions of the blocks so far.
use Rattle.std.proofs.Common.{◌≡◌, take}
use Rattle.pass_core.specs.Functions.{count_of}
use Rattle.frame_layout.proofs.function.insn_count.Given as goal

abbrev pub invariant-loop-block : goal.invariant-loop-block
invariant-loop-block l = l.count ≡ count_of (take l.block-index l.blocks)
