use Rattle.std.proofs.Common.{◌≡◌, ◌<◌, ◌≤◌, ℕ, false}
use Rattle.binpack_blocks.specs.model.Bins.{held_in}
use Rattle.binpack_blocks.specs.model.Choices.{is_idle}
use Rattle.binpack_blocks.proofs.bins.Scan.idle_register.Given as goal

abbrev pub invariant-loop-r : goal.invariant-loop-r
invariant-loop-r l = (q : ℕ) → 1 ≤ q → q < l.r → is_idle l.insn (held_in l.self.bins.items q) ≡ false
