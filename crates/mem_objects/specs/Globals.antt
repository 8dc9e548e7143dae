-- What a lawful list of objects of static storage is.
use Rattle.std.specs.Prelude.{◌≡◌, ℕ, ◌+◌, ◌*◌, ◌/◌, ◌^◌, ◌<◌, ◌≤◌, true, List, All, length, slice_get, Option, Some, None}
use Rattle.mem_objects.specs.declared.DataObject.{DataObject}
use Rattle.mem_objects.specs.declared.DataCell.{DataCell}
use Rattle.mem_objects.specs.declared.DataCell.TheVariants.{Byte, AddressPart}
use Rattle.mem_objects.specs.declared.TheConstants.{MOST_DATA}
use Rattle.mem_objects.specs.Layout.{ObjectsLieFrom}

-- a list of objects names an object with so many bytes at least
abbrev pub Reaches : (plus : ℕ) → Option DataObject → Type 0
Reaches plus None = ⊥
Reaches plus (Some o) = plus ≤ o.size

-- the eight parts of an address stand in order, from a place on
abbrev pub StandsWhole : List DataCell → (first global plus : ℕ) → Type 0
StandsWhole cells first global plus =
    (part : ℕ) → part < 8 → slice_get cells (first + part) ≡ Some (AddressPart global plus part)

-- what a cell at a place of an object must be: a byte is one; a part of an address belongs to a whole one, at a
-- multiple of 8 in a writable object, with a number from 0 to the size of an object that is there
abbrev pub IsLawfulCell : List DataObject → DataObject → (at : ℕ) → DataCell → Type 0
IsLawfulCell globals o at (Byte b) = b < 256
IsLawfulCell globals o at (AddressPart global plus part) =
    (o.writable ≡ true) × StandsWhole o.cells (at / 8 * 8) global plus × Reaches plus (slice_get globals global)

-- an object is no larger than the data may be, holds no more cells than it has bytes, and each cell is lawful
pub record IsLawfulObject (globals : List DataObject) (o : DataObject) : Type 0 where
  pub size : o.size ≤ MOST_DATA
  pub cells : length o.cells ≤ o.size
  pub lawful : (at : ℕ) (c : DataCell) → slice_get o.cells at ≡ Some c → IsLawfulCell globals o at c

-- the objects lie in order, there are fewer than 2 ^ 32 of them, and each is lawful
pub record AreLawful (globals : List DataObject) : Type 0 where
  pub count : length globals < 2 ^ 32
  pub layout : ObjectsLieFrom 0 globals
  pub objects : All (IsLawfulObject globals) globals
