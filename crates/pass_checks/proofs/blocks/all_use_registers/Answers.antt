use Rattle.std.proofs.Common.{All, arith, subst}
use Rattle.pass_core.specs.Functions.{UsesRegisters}
use Rattle.pass_checks.proofs.Alls.{all_more, all_done}
use Rattle.pass_checks.proofs.blocks.all_use_registers.Goals as goal

pub loop-insns-preserved : goal.loop-insns-preserved
loop-insns-preserved g c =
    all_more (All (UsesRegisters g.I.Insn.reads g.I.Insn.writes c.args.registers)) c.args.lists.now c.loop-insns.insns-index c.insns-item.result
    c.loop-insns-test.true c.insns-item.is c.loop-insns.invariant
    (subst (All (UsesRegisters g.I.Insn.reads g.I.Insn.writes c.args.registers)) c.as_slice.ensures c.if-not-use_registers.ensures)

pub returns : goal.returns
returns g c =
    all_done (All (UsesRegisters g.I.Insn.reads g.I.Insn.writes c.args.registers)) c.args.lists.now c.loop-insns.insns-index (omega arith) c.loop-insns.invariant
