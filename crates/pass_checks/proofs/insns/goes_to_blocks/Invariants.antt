use Rattle.std.proofs.Common.{◌<◌, take, All}
use Rattle.pass_checks.proofs.insns.goes_to_blocks.Given as goal

abbrev pub invariant-loop-k : goal.invariant-loop-k
invariant-loop-k g l = All (λ target. (0 < target) × (target < l.blocks)) (take l.k (g.I.Insn.targets l.insn))
