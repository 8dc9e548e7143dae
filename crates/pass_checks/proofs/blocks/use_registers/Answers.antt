use Rattle.std.proofs.Common.{arith}
use Rattle.pass_core.specs.Functions.{UsesRegisters}
use Rattle.pass_checks.proofs.Alls.{all_more, all_done}
use Rattle.pass_checks.proofs.blocks.use_registers.Goals as goal

pub loop-insn-preserved : goal.loop-insn-preserved
loop-insn-preserved g c =
    all_more (UsesRegisters g.I.Insn.reads g.I.Insn.writes c.args.registers) c.args.insns.now c.loop-insn.insn-index
    c.insn-item.result c.loop-insn-test.true c.insn-item.is c.loop-insn.invariant c.if-not-uses_registers.ensures

pub returns : goal.returns
returns g c =
    all_done (UsesRegisters g.I.Insn.reads g.I.Insn.writes c.args.registers) c.args.insns.now c.loop-insn.insn-index (omega arith)
    c.loop-insn.invariant
