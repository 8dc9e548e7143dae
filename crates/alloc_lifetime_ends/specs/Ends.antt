-- The last point of each lifetime.
use Rattle.std.specs.Prelude.{◌≡◌, ℕ, ◌<◌, ◌≤◌, true, List, length, slice_index_or}
use Rattle.alloc_rules.specs.Visits.{Wants}

-- a temporary that is present anywhere is present at its last point, and at none behind it
pub record AreEnds (wants : Wants) (temps : ℕ) (ends : List ℕ) : Type 0 where
  pub as_many : length ends ≡ temps
  pub present : (t point : ℕ) → t < temps → wants.present t point ≡ true →
      wants.present t (slice_index_or ends t 0) ≡ true
  pub last : (t point : ℕ) → t < temps → wants.present t point ≡ true → point ≤ slice_index_or ends t 0
