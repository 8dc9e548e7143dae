use Rattle.std.proofs.Common.{arith, subst}
use Rattle.pass_core.specs.Functions.{EndsLate}
use Rattle.pass_checks.proofs.Alls.{all_more, all_done}
use Rattle.pass_checks.proofs.blocks.all_end_late.Goals as goal

pub loop-insns-preserved : goal.loop-insns-preserved
loop-insns-preserved g c =
    all_more (EndsLate g.I.Insn.targets g.I.Insn.flows_on) c.args.lists.now c.loop-insns.insns-index c.insns-item.result
    c.loop-insns-test.true c.insns-item.is c.loop-insns.invariant
    (subst (EndsLate g.I.Insn.targets g.I.Insn.flows_on) c.as_slice.ensures c.if-not-ends_late.ensures)

pub returns : goal.returns
returns g c =
    all_done (EndsLate g.I.Insn.targets g.I.Insn.flows_on) c.args.lists.now c.loop-insns.insns-index (omega arith) c.loop-insns.invariant
