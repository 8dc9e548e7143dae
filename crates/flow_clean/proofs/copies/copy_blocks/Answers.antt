use Rattle.std.proofs.Common.{arith, All}
use Rattle.pass_core.specs.Functions.{UsesRegisters}
use Rattle.suifvm_ir.specs.Insns.{reads_of, writes_of}
use Rattle.bitvector_flow.proofs.Registers.{at_item}
use Rattle.flow_clean.proofs.CopiedBlocks.{few_next, made_next, start_next, last_next, uses_there, last_there}
use Rattle.flow_clean.proofs.copies.copy_blocks.Goals as goal

pub push_block-requires-clause-few : goal.push_block-requires-clause-few
push_block-requires-clause-few c =
    few_next c.args.blocks.now c.loop-block.block-index c.block-item.result (omega arith) c.block-item.is c.loop-block.start c.loop-block.invariant.count c.requires.few

pub push_block-requires-clause-inside : goal.push_block-requires-clause-inside
push_block-requires-clause-inside c =
    uses_there c.block-item.result c.loop-block.writes _ c.loop-block.invariant.last.as_many
    (at_item (All (UsesRegisters reads_of writes_of _)) c.args.blocks.now c.loop-block.block-index c.block-item.result c.requires.inside (omega arith) c.block-item.is)

pub push_block-requires-clause-last : goal.push_block-requires-clause-last
push_block-requires-clause-last c = last_there _ c.loop-block.start c.loop-block.writes c.loop-block.invariant.last

pub loop-block-preserved : goal.loop-block-preserved
loop-block-preserved c = record {
  made = made_next c.args.blocks.now c.loop-block.block-index c.block-item.result (omega arith) c.block-item.is c.loop-block.start c.in_ok-start.start
      c.loop-block.made c.push_block.new.made c.loop-block.writes c.push_block.new.writes c.in_ok-start.ensures c.loop-block.invariant.made;
  count = start_next c.args.blocks.now c.loop-block.block-index c.block-item.result (omega arith) c.block-item.is c.loop-block.start c.in_ok-start.start
      c.loop-block.made c.push_block.new.made c.loop-block.writes c.push_block.new.writes c.in_ok-start.ensures c.loop-block.invariant.count;
  last = last_next c.args.blocks.now c.loop-block.block-index c.block-item.result (omega arith) c.block-item.is c.loop-block.start c.in_ok-start.start
      c.loop-block.made c.push_block.new.made c.loop-block.writes c.push_block.new.writes c.in_ok-start.ensures _ c.loop-block.invariant.last.as_many;
}
