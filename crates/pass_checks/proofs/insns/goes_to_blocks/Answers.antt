use Rattle.std.proofs.Common.{◌<◌, sym, ◌∙◌, arith}
use Rattle.pass_checks.proofs.Alls.{all_found}
use Rattle.pass_checks.proofs.insns.goes_to_blocks.Goals as goal

pub loop-k-preserved : goal.loop-k-preserved
loop-k-preserved g c =
    all_found (λ target. (0 < target) × (target < c.args.blocks)) (g.I.Insn.targets c.args.insn.now) c.loop-k.k c.in-Some.target
    (sym c.target_at.ensures ∙ c.in-Some.is) c.loop-k.invariant (omega arith, omega arith)
