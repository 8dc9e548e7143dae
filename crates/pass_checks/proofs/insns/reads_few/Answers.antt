use Rattle.std.proofs.Common.{◌<◌, sym, ◌∙◌, arith}
use Rattle.pass_checks.proofs.Alls.{all_found}
use Rattle.pass_checks.proofs.insns.reads_few.Goals as goal

pub loop-k-preserved : goal.loop-k-preserved
loop-k-preserved g c =
    all_found (λ register. register < c.args.registers) (g.I.Insn.reads c.args.insn.now) c.loop-k.k c.in-Some.register
    (sym c.read_at.ensures ∙ c.in-Some.is) c.loop-k.invariant (omega arith)
