-- When the data of an image holds objects of static storage: each cell has its byte, a part of an address that of the
-- address in the data of the machine, and zero bytes stand behind the cells.
use Rattle.std.specs.Prelude.{◌≡◌, ◌≢◌, ℕ, suc, ◌+◌, ◌^◌, ◌<◌, ◌≤◌, nat_le, nat_lt, ◌&&◌, List, [], ◌∷◌, map, length, Some, None, Option, slice_get, slice_index, if◌then◌else◌}
use Rattle.alpha_isa.specs.Program.{Program, data_start}
use Rattle.alpha_isa.specs.State.{State}
use Rattle.mem_objects.specs.declared.DataObject.{DataObject}
use Rattle.mem_objects.specs.declared.DataCell.{DataCell}
use Rattle.mem_objects.specs.declared.DataCell.TheVariants.{Byte, AddressPart}
use Rattle.mem_objects.specs.Layout.{ObjectsLieFrom}
use Rattle.mem_objects.specs.Globals.{Reaches, AreLawful}
use Rattle.mem_objects.specs.Start.{start_memory}
use Rattle.mem_model.specs.Bytes.{AreBytes}
use Rattle.frame_memory.specs.Bytes.{low_bytes}
use Rattle.frame_memory.specs.Relation.{Extents, Owners, OfObject, Nobody, MemoryIs}
use Rattle.frame_memory.specs.Machine.{memory_bytes, HasParts}

-- where an object begins in the data, in bytes
abbrev pub global_offset : Option DataObject → ℕ
global_offset None = 0
global_offset (Some o) = o.offset

-- the byte of a cell, where the data begins at an address
abbrev pub cell_byte : List DataObject → (start : ℕ) → DataCell → ℕ
cell_byte globals start (Byte b) = b
cell_byte globals start (AddressPart global plus part) =
    slice_index (low_bytes 8 (start + global_offset (slice_get globals global) + plus)) part

-- objects lie one behind the other, have no more cells than bytes, and hold addresses of objects that are there
pub record AreLaidOut (globals : List DataObject) : Type 0 where
  pub layout : ObjectsLieFrom 0 globals
  pub cells : (k : ℕ) (o : DataObject) → slice_get globals k ≡ Some o → length o.cells ≤ o.size
  pub reaches : (k : ℕ) (o : DataObject) → slice_get globals k ≡ Some o → (at global plus part : ℕ) →
      slice_get o.cells at ≡ Some (AddressPart global plus part) → Reaches plus (slice_get globals global)

-- so do lawful ones, of which a program keeps that they are lawful
abbrev pub LawfulOnesAreLaidOut : Type 0
LawfulOnesAreLaidOut = (globals : List DataObject) → ∥ AreLawful globals ∥₁ → AreLaidOut globals

-- the data holds the objects
pub record DataIs (globals : List DataObject) (start : ℕ) (data_bytes : List ℕ) : Type 0 where
  pub bytes : AreBytes data_bytes
  pub small : start + length data_bytes < 2 ^ 64
  pub within : (k : ℕ) (o : DataObject) → slice_get globals k ≡ Some o → o.offset + o.size ≤ length data_bytes
  pub cells : (k : ℕ) (o : DataObject) → slice_get globals k ≡ Some o → (at : ℕ) (c : DataCell) →
      slice_get o.cells at ≡ Some c → slice_index data_bytes (o.offset + at) ≡ cell_byte globals start c
  pub zeros : (k : ℕ) (o : DataObject) → slice_get globals k ≡ Some o → (at : ℕ) → length o.cells ≤ at → at < o.size →
      slice_index data_bytes (o.offset + at) ≡ 0

-- the extents of the objects, and whose the bytes are
abbrev pub extents_of : (start : ℕ) → List DataObject → Extents
extents_of start globals = map (λ (o : DataObject). record { base = start + o.offset; size = o.size }) globals

abbrev pub owner_from : (start number : ℕ) → List DataObject → Owners
owner_from start number [] y = Nobody
owner_from start number (o ∷ os) y =
    if nat_le (start + o.offset) y && nat_lt y (start + o.offset + o.size) then OfObject number
    else owner_from start (suc number) os y

abbrev pub owner_of : (start : ℕ) → List DataObject → Owners
owner_of start globals = owner_from start 0 globals

-- the bytes of a machine with this data stand for the memory at the start,
abbrev pub GlobalsStand : Type 0
GlobalsStand =
    (globals : List DataObject) (p : Program) (s : State) → AreLaidOut globals →
    DataIs globals (data_start p) s.data_bytes → HasParts p s → AreBytes s.stack_bytes →
    MemoryIs (extents_of (data_start p) globals) (start_memory globals) (owner_of (data_start p) globals)
    (memory_bytes p s)

-- and all that has an owner lies in the data
abbrev pub DataHasOwners : Type 0
DataHasOwners =
    (globals : List DataObject) (start : ℕ) (data_bytes : List ℕ) → DataIs globals start data_bytes → (y : ℕ) →
    owner_of start globals y ≢ Nobody → (start ≤ y) × (y < start + length data_bytes)
