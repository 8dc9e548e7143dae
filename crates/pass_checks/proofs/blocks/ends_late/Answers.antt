use Rattle.std.proofs.Common.{All, arith, subst, sym}
use Rattle.pass_core.specs.Functions.{IsStraight}
use Rattle.pass_checks.proofs.Alls.{all_more, all_done, front_is}
use Rattle.pass_checks.proofs.blocks.ends_late.Goals as goal

pub loop-insn-preserved : goal.loop-insn-preserved
loop-insn-preserved g c =
    all_more (IsStraight g.I.Insn.targets g.I.Insn.flows_on) c.in-Some.front.now c.loop-insn.insn-index c.insn-item.result
    c.loop-insn-test.true c.insn-item.is c.loop-insn.invariant c.if-not-is_straight.ensures

pub returns : goal.returns
returns g c =
    subst (All (IsStraight g.I.Insn.targets g.I.Insn.flows_on))
    (sym (front_is c.args.insns.now c.in-Some.front.now c.in-Some._last.now c.in-Some.ensures.cases.0))
    (all_done (IsStraight g.I.Insn.targets g.I.Insn.flows_on) c.in-Some.front.now c.loop-insn.insn-index (omega arith)
    c.loop-insn.invariant)
