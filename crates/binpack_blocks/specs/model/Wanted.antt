-- Lifetimes in order.
use Rattle.std.specs.Prelude.{◌≡◌, ℕ, suc, ◌<◌, ◌≤◌, List, slice_get, Some}
use Rattle.alloc_rules.specs.declared.scan.LifetimePart.{LifetimePart}
use Rattle.alloc_rules.specs.declared.scan.Lifetimes.{Lifetimes}
use Rattle.alloc_rules.specs.Scan.{lifetime_parts, refs_of}

-- each part ends before the next one begins, and none before it begins
pub record PartsRise (parts : List LifetimePart) : Type 0 where
  pub rise : (k : ℕ) (a b : LifetimePart) → slice_get parts k ≡ Some a → slice_get parts (suc k) ≡ Some b → a.last < b.first
  pub ordered : (k : ℕ) (a : LifetimePart) → slice_get parts k ≡ Some a → a.first ≤ a.last

-- so it is for each temporary
pub record LifetimesRise (lives : Lifetimes) : Type 0 where
  pub each : (t : ℕ) → PartsRise (lifetime_parts lives t)

-- points in order
pub record PointsRise (points : List ℕ) : Type 0 where
  pub rise : (k a b : ℕ) → slice_get points k ≡ Some a → slice_get points (suc k) ≡ Some b → a < b

-- so are the references of each temporary
pub record ReferencesRise (lives : Lifetimes) : Type 0 where
  pub each : (t : ℕ) → PointsRise (refs_of lives t)
