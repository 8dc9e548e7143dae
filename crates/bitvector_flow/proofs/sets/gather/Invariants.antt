-- The members of the sets so far are in.
use Rattle.std.proofs.Common.{◌≡◌, ℕ, ◌||◌, length, take}
use Rattle.bk_bits.specs.Sets.{has}
use Rattle.bitvector_flow.specs.model.Rounds.{any_has}
use Rattle.bitvector_flow.proofs.sets.gather.Given as goal

abbrev pub invariant-loop-number : goal.invariant-loop-number
invariant-loop-number l = record {
  bound : length l.into ≡ length l.initial.into;
  members : (k : ℕ) → has l.into k ≡ (has l.initial.into k || any_has l.sets (take l.number-index l.numbers) k);
}
