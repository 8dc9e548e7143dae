-- The data of an assembly by the objects of static storage: their bytes one behind the other, with zeros between them,
-- and a fix for each address that they hold.
use Rattle.std.specs.Prelude.{ℕ, zero, suc, ◌+◌, ◌-◌, ◌^◌, ◌<◌, List, [], ◌∷◌, ◌++◌, map, length, replicate, slice_get}
use Rattle.alpha_items.specs.declared.item.Fix.{Fix}
use Rattle.alpha_items.specs.Words.{fixed_data}
use Rattle.mem_objects.specs.declared.DataObject.{DataObject}
use Rattle.mem_objects.specs.declared.DataCell.{DataCell}
use Rattle.mem_objects.specs.declared.DataCell.TheVariants.{Byte, AddressPart}
use Rattle.mem_objects.specs.Globals.{AreLawful}
use Rattle.frame_memory.specs.flat_globals.Globals.{global_offset, DataIs}

-- the byte of a cell before the fixes
abbrev pub unfixed_byte : DataCell → ℕ
unfixed_byte (Byte b) = b
unfixed_byte (AddressPart global plus part) = 0

-- the bytes of an object, and of objects from an end on
abbrev pub object_bytes : DataObject → List ℕ
object_bytes o = map unfixed_byte o.cells ++ replicate (o.size - length o.cells) 0

abbrev pub bytes_from_end : (end : ℕ) → List DataObject → List ℕ
bytes_from_end end [] = []
bytes_from_end end (o ∷ os) =
    replicate (o.offset - end) 0 ++ (object_bytes o ++ bytes_from_end (o.offset + o.size) os)

abbrev pub global_bytes : List DataObject → List ℕ
global_bytes globals = bytes_from_end 0 globals

-- a fix stands where an address begins
abbrev pub cell_fixes : List DataObject → (at : ℕ) → DataCell → List Fix
cell_fixes globals at (Byte b) = []
cell_fixes globals at (AddressPart global plus zero) =
    record { at = at; offset = global_offset (slice_get globals global) + plus } ∷ []
cell_fixes globals at (AddressPart global plus (suc part)) = []

abbrev pub cells_fixes : List DataObject → (at : ℕ) → List DataCell → List Fix
cells_fixes globals at [] = []
cells_fixes globals at (c ∷ cells) = cell_fixes globals at c ++ cells_fixes globals (suc at) cells

abbrev pub objects_fixes : (globals objects : List DataObject) → List Fix
objects_fixes globals [] = []
objects_fixes globals (o ∷ os) = cells_fixes globals o.offset o.cells ++ objects_fixes globals os

abbrev pub global_fixes : List DataObject → List Fix
global_fixes globals = objects_fixes globals globals

-- with the fixes done the data holds the objects
abbrev pub DataHoldsObjects : Type 0
DataHoldsObjects =
    (globals : List DataObject) (start : ℕ) → ∥ AreLawful globals ∥₁ →
    start + length (global_bytes globals) < 2 ^ 64 →
    DataIs globals start (fixed_data start (global_bytes globals) (global_fixes globals))
