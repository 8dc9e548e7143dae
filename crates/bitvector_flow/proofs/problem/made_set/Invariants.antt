-- The numbers so far are in where the test holds.
use Rattle.std.proofs.Common.{◌≡◌, ℕ, ◌&&◌, length}
use Rattle.std.specs.Prelude.{nat_lt}
use Rattle.bk_bits.specs.Sets.{has}
use Rattle.bitvector_flow.proofs.problem.made_set.Given as goal

abbrev pub invariant-loop-k : goal.invariant-loop-k
invariant-loop-k g l = record {
  bound : length l.set ≡ l.size;
  members : (j : ℕ) → has l.set j ≡ (nat_lt j l.k && g.P.Problem.made l.problem l.block j);
}
