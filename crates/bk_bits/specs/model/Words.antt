-- Bits of words as a set: number k stands in word k / 64, in the bit k % 64.
use Rattle.std.specs.Prelude.{◌≡◌, ℕ, zero, suc, ◌+◌, ◌/◌, ◌%◌, ◌^◌, ◌==◌, ◌<◌, ◌≤◌, ◌||◌, not, Bool, false, List, map, length, slice_index, bit_or}
use Rattle.std.specs.List.{range_with_len}
use Rattle.std.specs.Int.{bit_at}

abbrev pub is_member : (words : List ℕ) → (k : ℕ) → Bool
is_member words k = bit_at (slice_index words (k / 64)) (k % 64) == 1

abbrev pub members : (words : List ℕ) → (bound : ℕ) → List Bool
members words bound = map (is_member words) (range_with_len 0 bound)

-- the words of a set with a bound: as many as are needed, and no bit past the bound is set
pub record AreWords (words : List ℕ) (bound : ℕ) : Type 0 where
  pub few : bound < 2 ^ 32
  pub length : length words ≡ (bound + 63) / 64
  pub none : (k : ℕ) → bound ≤ k → is_member words k ≡ false

-- so many words are made of those of two lists, and the rest are those of the first
pub record AreMade (word : ℕ → ℕ → ℕ) (old other now : List ℕ) (count : ℕ) : Type 0 where
  pub length : length now ≡ length old
  pub made : (p : ℕ) → p < count → slice_index now p ≡ word (slice_index old p) (slice_index other p)
  pub rest : (p : ℕ) → count ≤ p → slice_index now p ≡ slice_index old p

-- one of so many words has a bit that the first list does not have
abbrev pub adds : (old other : List ℕ) → (count : ℕ) → Bool
adds old other zero = false
adds old other (suc p) = adds old other p || not (bit_or (slice_index old p) (slice_index other p) == slice_index old p)
