-- The first places among the keys from one on.
use Rattle.std.proofs.Common.{◌≡◌, ◌==◌, ◌<◌, ◌+◌, ℕ, length, get_or, drop}
use Rattle.std.specs.List.{position_or_len}
use Rattle.frame_layout.proofs.edges.first_places.Given as goal

abbrev pub invariant-loop-at : goal.invariant-loop-at
invariant-loop-at l =
    (length l.places.items ≡ l.count)
    × ((k : ℕ) → k < l.count → get_or l.places.items k 0 ≡ l.at + position_or_len (λ key. key == k) (drop l.at l.keys))
