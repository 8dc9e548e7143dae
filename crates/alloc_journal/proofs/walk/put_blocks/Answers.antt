use Rattle.std.proofs.Common.{rules, length, All, ◌^◌}
use Rattle.pass_core.specs.Functions.{UsesRegisters}
use Rattle.temp_ir.specs.Insns.{reads_of, writes_of}
use Rattle.alloc_journal.proofs.Loops.{at_item, blocks_next, blocks_done, number_next, few_next}
use Rattle.alloc_journal.proofs.walk.put_blocks.Goals as goal

pub put_visits-requires-clause-few : goal.put_visits-requires-clause-few
put_visits-requires-clause-few c = few_next c.args.blocks.now c.loop-block.block-index c.loop-block.next (2 ^ 30) c.block-item.result c.loop-block-test.true c.block-item.is c.loop-block.invariant.next c.requires.few

pub put_visits-requires-clause-inside : goal.put_visits-requires-clause-inside
put_visits-requires-clause-inside c = at_item (All (UsesRegisters reads_of writes_of c.args.temps)) c.args.blocks.now c.loop-block.block-index c.block-item.result c.requires.inside c.loop-block-test.true c.block-item.is

pub loop-block-preserved : goal.loop-block-preserved
loop-block-preserved c = record {
  next = number_next c.args.blocks.now c.loop-block.block-index c.loop-block.next c.in_ok-next.next c.block-item.result c.loop-block-test.true c.block-item.is c.loop-block.invariant.next c.in_ok-next.ensures.next;
  many = search rules;
  below = c.in_ok-next.ensures.below;
  events = blocks_next c.args.temps c.args.lives.now c.args.at.now c.args.regs.now c.args.blocks.now c.loop-block.block-index c.loop-block.next c.in_ok-next.next c.block-item.result c.loop-block.holders c.put_visits.new.holders
      c.loop-block.out c.put_visits.new.out _ c.loop-block-test.true c.block-item.is c.in_ok-next.ensures.events c.in_ok-next.ensures.behind c.in_ok-next.ensures.next c.loop-block.invariant.events;
}

pub returns : goal.returns
returns c = blocks_done c.args.temps c.args.lives.now c.args.at.now c.args.regs.now c.args.blocks.now c.loop-block.block-index c.loop-block.next c.loop-block.holders c.loop-block.out _ c.loop-block-test.false c.loop-block.invariant.events
