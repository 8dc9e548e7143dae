use Rattle.std.proofs.Common.{ℕ, List, ◌+◌, ◌≤◌, length}
use Rattle.alpha_asm.specs.model.Sums.{front, HoldsAtMost}
use Rattle.alpha_asm.proofs.sums.words_between.Given as goal

abbrev pub invariant-loop-range : goal.invariant-loop-range
invariant-loop-range l = record {
  order : l.range.left ≤ l.range.right;
  inside : l.range.right ≤ length l.sums;
  words : (leaves : List ℕ) → HoldsAtMost leaves l.sums →
      l.range.words + front l.sums l.range.right + front l.sums (l.count + l.start) ≤ front l.sums (l.count + l.end) + front l.sums l.range.left;
}

abbrev pub decreases-loop-range : goal.decreases-loop-range
decreases-loop-range l = l.range.right
