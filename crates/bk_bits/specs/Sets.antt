-- Sets of numbers below a bound, as a list that says of each number whether it is a member.
use Rattle.std.specs.Prelude.{◌≡◌, ℕ, ◌<◌, ◌≤◌, ◌&&◌, ◌||◌, not, Bool, true, false, List, slice_index_or}

-- a number is a member; none past the bound is
abbrev pub has : (set : List Bool) → (k : ℕ) → Bool
has set k = slice_index_or set k false

-- a set has the members of two others
abbrev pub IsUnion : (new old other : List Bool) → Type 0
IsUnion new old other = (k : ℕ) → has new k ≡ (has old k || has other k)

-- a set has the members of one that another one does not have
abbrev pub IsDifference : (new old other : List Bool) → Type 0
IsDifference new old other = (k : ℕ) → has new k ≡ (has old k && not (has other k))

-- a number is the least member from another one on
abbrev pub IsNext : (set : List Bool) → (from k : ℕ) → Type 0
IsNext set from k = (from ≤ k) × (has set k ≡ true) × ((j : ℕ) → from ≤ j → j < k → has set j ≡ false)

abbrev pub HasNone : (set : List Bool) → (from : ℕ) → Type 0
HasNone set from = (j : ℕ) → from ≤ j → has set j ≡ false
