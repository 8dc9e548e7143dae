use Rattle.std.proofs.Common.{◌≡◌, ◌<◌, ℕ, false}
use Rattle.binpack_blocks.specs.model.Bins.{held_in, has_temp}
use Rattle.binpack_blocks.proofs.bins.Scan.register_of.Given as goal

abbrev pub invariant-loop-r : goal.invariant-loop-r
invariant-loop-r l = (q : ℕ) → q < l.r → has_temp (held_in l.self.bins.items q) l.temp ≡ false
