use Rattle.std.proofs.Common.{◌≡◌, ◌<◌, ◌≤◌, ℕ}
use Rattle.binpack_blocks.specs.model.Bins.{held_in, lent}
use Rattle.binpack_blocks.proofs.bins.Scan.lend.Given as goal

abbrev pub invariant-loop-r : goal.invariant-loop-r
invariant-loop-r l = record {
  lent : (q : ℕ) → q < l.r → held_in l.self.bins.items q ≡ lent (held_in l.fn.self.bins.items q);
  others : (q : ℕ) → l.r ≤ q → held_in l.self.bins.items q ≡ held_in l.fn.self.bins.items q;
  temps : l.self.temps ≡ l.fn.self.temps;
}
