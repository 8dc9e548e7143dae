use Rattle.std.proofs.Common.{◌≡◌, ◌<◌, ℕ, nat_lt, find}
use Rattle.binpack_blocks.specs.model.NextUses.{next_use, uses_of}
use Rattle.binpack_blocks.proofs.fixed_uses.FixedUses.pass.Given as goal

abbrev pub invariant-loop-r : goal.invariant-loop-r
invariant-loop-r l = record {
  next : (q : ℕ) → q < l.r → next_use l.self q ≡ find (λ p. nat_lt l.point p) (uses_of l.fn.self q);
  uses : (q : ℕ) → uses_of l.self q ≡ uses_of l.fn.self q;
}
