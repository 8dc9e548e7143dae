use Rattle.std.proofs.Common.{rules, arith, All}
use Rattle.pass_core.specs.Functions.{UsesRegisters}
use Rattle.bitvector_flow.specs.Lives.{HasFewRegisters}
use Rattle.bitvector_flow.proofs.Registers.{begun_sets, sets_next, sets_all, at_item}
use Rattle.bitvector_flow.proofs.blocks.block_sets.Goals as goal

pub loop-block-init : goal.loop-block-init
loop-block-init g c =
    begun_sets g.I.Insn.reads g.I.Insn.writes c.args.registers c.new-reads.result.items c.new-writes.result.items (search rules) (search rules)

pub push_block-requires-clause-inside : goal.push_block-requires-clause-inside
push_block-requires-clause-inside g c =
    at_item (All (UsesRegisters g.I.Insn.reads g.I.Insn.writes c.args.registers)) c.args.blocks.now c.loop-block.block-index c.block-item.result
    c.requires.inside (omega arith) c.block-item.is

pub push_block-requires-clause-few : goal.push_block-requires-clause-few
push_block-requires-clause-few g c =
    at_item (All (HasFewRegisters g.I.Insn.reads g.I.Insn.writes)) c.args.blocks.now c.loop-block.block-index c.block-item.result
    c.requires.few (omega arith) c.block-item.is

pub loop-block-preserved : goal.loop-block-preserved
loop-block-preserved g c =
    sets_next g.I.Insn.reads g.I.Insn.writes c.args.registers c.args.blocks.now c.loop-block.block-index c.block-item.result
    c.loop-block.reads.items c.push_block.new.reads.items c.loop-block.writes.items c.push_block.new.writes.items
    c.loop-block.invariant c.in_ok-push_block.ensures (omega arith) c.block-item.is

pub returns : goal.returns
returns g c =
    sets_all g.I.Insn.reads g.I.Insn.writes c.args.registers c.args.blocks.now c.loop-block.block-index c.loop-block.reads.items c.loop-block.writes.items (omega arith) c.loop-block.invariant
