-- How the objects of a memory are kept: an entry for each live one, by rising numbers. An entry of an object that has
-- ended holds nothing, and may be left out.
use Rattle.std.specs.Prelude.{◌≡◌, ℕ, suc, ◌-◌, ◌≤◌, ◌==◌, List, [], ◌∷◌, map, length, Option, Some, None, true, option_map, slice_get, if◌then◌else◌}
use Rattle.std.specs.List.{range_with_len}
use Rattle.std.specs.declared.boxed.Box.{Box}
use Rattle.std.specs.declared.alloc.Global.{Global}
use Rattle.mem_model.specs.declared.entries.Live.{Live}
use Rattle.mem_model.specs.declared.entries.Entry.{Entry}
use Rattle.mem_model.specs.declared.value.Cell.{Cell}
use Rattle.mem_model.specs.Cells.{with_row}
use Rattle.mem_model.specs.Memory.{Memory, Object, no_object}

-- what is kept of an object
abbrev pub Place : Type 0
Place = Option (Box Live Global)

-- a live object
abbrev pub object_of : Live → Object
object_of x = record { live = true; writable = x.writable; cells = x.cells }

-- the object that is kept in a place
abbrev pub object_in : Place → Object
object_in None = no_object
object_in (Some b) = object_of b.value

-- what is kept of the object with a number
unfoldable pub place_in : List Entry → (number : ℕ) → Place
place_in [] number = None
place_in (e ∷ entries) number = if e.number == number then e.object else place_in entries number

-- the objects that are kept, of so many that were ever made
unfoldable pub objects_in : (made : ℕ) → List Entry → Memory
objects_in made entries = map (λ number. object_in (place_in entries number)) (range_with_len 0 made)

-- the numbers rise from one bound on, and stay below the other
abbrev pub IsRising : (low made : ℕ) → List Entry → Type 0
IsRising low made [] = low ≤ made
IsRising low made (e ∷ entries) = (low ≤ e.number) × IsRising (suc e.number) made entries

-- the entry with a number stands at this place of the list
abbrev pub IsEntryAt : List Entry → (at number : ℕ) → Type 0
IsEntryAt entries at number = option_map (λ (e : Entry). e.number) (slice_get entries at) ≡ Some number

-- the last entry is of an object that has ended
abbrev pub IsLastEnded : List Entry → Type 0
IsLastEnded entries = option_map (λ (e : Entry). e.object) (slice_get entries (length entries - 1)) ≡ Some None

-- another list keeps the same objects
pub record KeptAlike (made : ℕ) (old new : List Entry) : Type 0 where
  pub rising : IsRising 0 made new
  pub objects : objects_in made new ≡ objects_in made old

abbrev pub KeepsObjects : (old new : List Entry) → Type 0
KeepsObjects old new = (made : ℕ) → IsRising 0 made old → KeptAlike made old new

-- the object with a row of cells in it from a place on
abbrev pub with_row_in : Object → (at : ℕ) → List Cell → Object
with_row_in x at row = record { live = x.live; writable = x.writable; cells = with_row x.cells at row }
