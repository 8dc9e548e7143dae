-- Bounds on the objects of static storage, by which the numbers of bytes and fixes fit.
use Rattle.std.specs.Prelude.{◌≡◌, ℕ, ◌+◌, ◌≤◌, All, List, [], ◌∷◌, length, slice_get}
use Rattle.mem_objects.specs.declared.DataObject.{DataObject}
use Rattle.mem_objects.specs.declared.DataCell.{DataCell}
use Rattle.mem_objects.specs.declared.DataCell.TheVariants.{Byte, AddressPart}
use Rattle.mem_objects.specs.declared.TheConstants.{MOST_DATA}
use Rattle.mem_objects.specs.Layout.{place_after}
use Rattle.frame_memory.specs.flat_globals.Globals.{global_offset}

-- objects lie one behind the other from an end on, none of them past the end of the most data
abbrev pub LieWithin : (end : ℕ) → List DataObject → Type 0
LieWithin end [] = end ≤ MOST_DATA
LieWithin end (o ∷ os) = (o.offset ≡ place_after end) × LieWithin (o.offset + o.size) os

-- the address that a cell is part of lies within the most data
abbrev pub ReachesWithin : List DataObject → DataCell → Type 0
ReachesWithin globals (Byte b) = Unit {0}
ReachesWithin globals (AddressPart global plus part) = global_offset (slice_get globals global) + plus ≤ MOST_DATA

-- so do the cells of an object, and the addresses in them
pub record FitsFixes (globals : List DataObject) (o : DataObject) : Type 0 where
  pub end : o.offset + length o.cells ≤ MOST_DATA
  pub reaches : All (ReachesWithin globals) o.cells
