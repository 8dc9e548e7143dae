-- Which points a lifetime covers, by its first and last part.
use Rattle.std.specs.Prelude.{◌≡◌, ℕ, ◌-◌, ◌<◌, ◌&&◌, nat_le, Bool, false, List, length, slice_get, Option, Some, None}
use Rattle.alloc_model.specs.Places.{Plan}
use Rattle.alloc_rules.specs.declared.scan.LifetimePart.{LifetimePart}
use Rattle.alloc_rules.specs.declared.scan.Lifetimes.{Lifetimes}
use Rattle.alloc_rules.specs.Scan.{lifetime_parts}
use Rattle.alloc_rules.specs.Visits.{Wants}
use Rattle.alloc_rules.specs.Frugal.{is_covered}

abbrev pub lies_between : Option LifetimePart → Option LifetimePart → (point : ℕ) → Bool
lies_between None last point = false
lies_between (Some first) None point = false
lies_between (Some first) (Some last) point = nat_le first.first point && nat_le point last.last

abbrev pub parts_cover : List LifetimePart → (point : ℕ) → Bool
parts_cover parts point = lies_between (slice_get parts 0) (slice_get parts (length parts - 1)) point

abbrev pub lifetime_covers : Lifetimes → (t point : ℕ) → Bool
lifetime_covers lives t point = parts_cover (lifetime_parts lives t) point

-- the parts say which points the lifetimes of an allocation's temporaries cover
pub record SayCovered (lives : Lifetimes) (a : Plan) (wants : Wants) : Type 0 where
  pub each : (t point : ℕ) → t < a.temps → is_covered a wants t point ≡ lifetime_covers lives t point
