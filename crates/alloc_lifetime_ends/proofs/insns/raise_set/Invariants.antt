-- The members below a number are raised.
use Rattle.std.proofs.Common.{◌≡◌, ◌-◌, ◌<◌, ◌≤◌, true, length}
use Rattle.bk_bits.specs.Sets.{has}
use Rattle.alloc_lifetime_ends.specs.model.Raised.{IsRaised}
use Rattle.alloc_lifetime_ends.proofs.insns.raise_set.Given as goal

abbrev pub invariant-loop-temp : goal.invariant-loop-temp
invariant-loop-temp l = record {
  within : l.from ≤ length l.set;
  raised : IsRaised (λ t p. (has l.set t ≡ true) × (t < l.from) × (p ≡ l.point)) l.initial.ends l.ends;
}

abbrev pub decreases-loop-temp : goal.decreases-loop-temp
decreases-loop-temp l = length l.set - l.from
