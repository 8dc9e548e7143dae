-- The sets of the blocks so far.
use Rattle.std.proofs.Common.{take}
use Rattle.bitvector_flow.specs.model.Blocks.{AreBlockSets}
use Rattle.bitvector_flow.proofs.blocks.block_sets.Given as goal

abbrev pub invariant-loop-block : goal.invariant-loop-block
invariant-loop-block g l = AreBlockSets g.I.Insn.reads g.I.Insn.writes l.registers (take l.block-index l.blocks) l.reads.items l.writes.items
