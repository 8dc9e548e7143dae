-- The maps of places at the tops and bottoms of blocks.
use Rattle.std.specs.Prelude.{ℕ, suc, ◌||◌, Bool, List, [], ◌∷◌, ◌++◌, Option, Some, None, if◌then◌else◌}
use Rattle.bk_bits.specs.Sets.{has}
use Rattle.alloc_model.specs.declared.allocation.Loc.TheVariants as loc
use Rattle.alloc_model.specs.declared.allocation.TempPlace.{TempPlace}
use Rattle.binpack_blocks.specs.declared.held.Held.{Held}
use Rattle.binpack_blocks.specs.model.Bins.{Bins}

-- all, or the members of a set
abbrev pub is_listed : (all : Bool) → (set : List Bool) → (t : ℕ) → Bool
is_listed all set t = all || has set t

abbrev pub entry : (live : ℕ → Bool) → (r : ℕ) → Option Held → List TempPlace
entry live r None = []
entry live r (Some h) = if live h.temp then record { temp = h.temp; place = loc.Reg r } ∷ [] else []

-- what stands in the registers from one on, with them
abbrev pub places_from : (live : ℕ → Bool) → (r : ℕ) → Bins → List TempPlace
places_from live r [] = []
places_from live r (o ∷ bins) = entry live r o ++ places_from live (suc r) bins
