-- The words of the items of a text in a tree of sums.
use Rattle.std.specs.Prelude.{◌≡◌, ℕ, ◌+◌, ◌*◌, ◌<◌, ◌≤◌, List, length, take, slice_index}
use Rattle.std.specs.List.{sum}

-- the sum of the nodes before one
abbrev pub front : List ℕ → ℕ → ℕ
front sums k = sum (take k sums)

-- no node of a tree has more than what stands below it: the nodes 2k and 2k + 1, or behind those the k-th number
pub record HoldsAtMost (leaves sums : List ℕ) : Type 0 where
  pub room : length sums ≡ 2 * length leaves
  pub below : (k : ℕ) → k < length leaves → slice_index sums (length leaves + k) ≤ slice_index leaves k
  pub nodes : (k : ℕ) → k < length leaves → slice_index sums k ≤ slice_index sums (2 * k) + slice_index sums (2 * k + 1)
