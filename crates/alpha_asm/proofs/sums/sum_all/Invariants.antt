use Rattle.std.proofs.Common.{ℕ, List}
use Rattle.alpha_asm.specs.model.Sums.{HoldsAtMost}
use Rattle.alpha_asm.proofs.sums.sum_all.Given as goal

abbrev pub invariant-loop-node : goal.invariant-loop-node
invariant-loop-node l = (leaves : List ℕ) → HoldsAtMost leaves l.fn.sums → HoldsAtMost leaves l.sums
