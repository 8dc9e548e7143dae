-- The laws of the memory.
use Rattle.std.specs.Prelude.{◌≡◌, ℕ, ◌+◌, ◌*◌, ◌%◌, ◌^◌, ◌<◌, ◌≤◌, ◌⊎◌, ◌≢◌, pos, Bool, true, false, List, length, map, None, Ok, Err, slice_index}
use Rattle.mem_model.specs.declared.value.Ptr.{Ptr}
use Rattle.mem_model.specs.declared.value.Value.{Value}
use Rattle.mem_model.specs.declared.value.Value.TheVariants.{Word, Address}
use Rattle.mem_model.specs.declared.value.Cell.{Cell}
use Rattle.mem_model.specs.declared.value.MemFault.TheVariants.{PartPointer}
use Rattle.mem_model.specs.Cells.{cells_of, value_or_fault}
use Rattle.mem_model.specs.Memory.{Memory, place_of, row_at, put_row, object_at, no_object, fresh_object, begin_object, end_object, begin_objects, end_objects, is_gone, is_outside, range_fault, read_fault, write_fault, load_at, store_at, copy_at, init_at, byte_of, IsWidth, IsStorable}
use Rattle.mem_model.specs.Pointers.{ptr_plus}

-- a range of so many bytes shares none with another one
abbrev pub Apart : Ptr → (size : ℕ) → Ptr → (other : ℕ) → Type 0
Apart p size q other =
    (p.object ≢ q.object) ⊎ (place_of p.offset + size ≤ place_of q.offset) ⊎
    (place_of q.offset + other ≤ place_of p.offset)

-- one object has other cells, as many as before; all else is as before, and each object keeps its number
pub record ChangesCells (old new : Memory) (id : ℕ) : Type 0 where
  pub count : length new ≡ length old
  pub live : (object_at new id).live ≡ (object_at old id).live
  pub writable : (object_at new id).writable ≡ (object_at old id).writable
  pub size : length (object_at new id).cells ≡ length (object_at old id).cells
  pub others : (k : ℕ) → k ≢ id → object_at new k ≡ object_at old k

-- a row of cells has its place in a live object
pub record CanPut (m : Memory) (p : Ptr) (row : List Cell) : Type 0 where
  pub live : is_gone m p ≡ false
  pub within : is_outside m p (length row) ≡ false

-- a row that is put changes cells of one object,
abbrev pub PutChangesCells : Type 0
PutChangesCells = (m : Memory) (p : Ptr) (row : List Cell) → CanPut m p row → ChangesCells m (put_row m p row) p.object

-- stands at its place,
abbrev pub PutGivesRow : Type 0
PutGivesRow = (m : Memory) (p : Ptr) (row : List Cell) → CanPut m p row → row_at (put_row m p row) p (length row) ≡ row

-- and leaves what lies apart as it was
abbrev pub PutKeepsRows : Type 0
PutKeepsRows =
    (m : Memory) (p q : Ptr) (row : List Cell) (other : ℕ) → CanPut m p row → Apart p (length row) q other →
    row_at (put_row m p row) q other ≡ row_at m q other

abbrev pub PutKeepsLoads : Type 0
PutKeepsLoads =
    (m : Memory) (p q : Ptr) (row : List Cell) (other : ℕ) (pointer : Bool) → CanPut m p row
    → Apart p (length row) q other →
    load_at (put_row m p row) q other pointer ≡ load_at m q other pointer

-- a memory is another one with a row put
pub record IsPut (m new : Memory) (p : Ptr) (size : ℕ) (row : List Cell) : Type 0 where
  pub can : CanPut m p row
  pub size_is : length row ≡ size
  pub is : new ≡ put_row m p row

-- a store, a copy and an initialisation put a row
abbrev pub StorePuts : Type 0
StorePuts =
    (m new : Memory) (p : Ptr) (width : ℕ) (v : Value) → IsWidth width → IsStorable width v →
    store_at m p width v ≡ Ok new → IsPut m new p width (cells_of width v)

abbrev pub CopyPuts : Type 0
CopyPuts =
    (m new : Memory) (to from : Ptr) (size align : ℕ) → copy_at m to from size align ≡ Ok new
    → IsPut m new to size (row_at m from size)

abbrev pub InitPuts : Type 0
InitPuts =
    (m new : Memory) (p : Ptr) (values : List Value) → init_at m p values ≡ Ok new
    → IsPut m new p (length values) (map byte_of values)

-- where one object has other cells, each access has the fault that it had
pub record SameFaults (old new : Memory) : Type 0 where
  pub range : (q : Ptr) (size : ℕ) → range_fault new q size ≡ range_fault old q size
  pub reading : (q : Ptr) (size align : ℕ) → read_fault new q size align ≡ read_fault old q size align
  pub writing : (q : Ptr) (size align : ℕ) → write_fault new q size align ≡ write_fault old q size align

abbrev pub ChangesKeepFaults : Type 0
ChangesKeepFaults = (old new : Memory) (id : ℕ) → ChangesCells old new id → SameFaults old new

-- a load that gives a value had no fault, and read it from the row there
pub record IsLoad (m : Memory) (p : Ptr) (width : ℕ) (pointer : Bool) (v : Value) : Type 0 where
  pub free : read_fault m p width width ≡ None
  pub value : value_or_fault pointer (row_at m p width) ≡ Ok v

abbrev pub LoadTells : Type 0
LoadTells =
    (m : Memory) (p : Ptr) (width : ℕ) (pointer : Bool) (v : Value) → load_at m p width pointer ≡ Ok v
    → IsLoad m p width pointer v

-- a number that was stored is loaded as what its width holds of it
abbrev pub LoadsNumber : Type 0
LoadsNumber =
    (m new : Memory) (p : Ptr) (width n : ℕ) → IsWidth width → store_at m p width (Word n) ≡ Ok new →
    load_at new p width false ≡ Ok (Word (n % 2 ^ (8 * width)))

-- a pointer that was stored is loaded whole
abbrev pub LoadsPointer : Type 0
LoadsPointer =
    (m new : Memory) (p q : Ptr) → store_at m p 8 (Address q) ≡ Ok new → load_at new p 8 true ≡ Ok (Address q)

-- eight zero bytes are loaded as null
abbrev pub LoadsNull : Type 0
LoadsNull = (m new : Memory) (p : Ptr) → store_at m p 8 (Word 0) ≡ Ok new → load_at new p 8 true ≡ Ok (Word 0)

-- no part of a pointer that was stored is loaded as a number
abbrev pub PartsAreNoNumber : Type 0
PartsAreNoNumber =
    (m new : Memory) (p q : Ptr) (k width : ℕ) → store_at m p 8 (Address q) ≡ Ok new → IsWidth width → k + width ≤ 8
    → k % width ≡ 0 →
    load_at new (ptr_plus p (pos k)) width false ≡ Err PartPointer

-- a copy gives the target the cells of the source, whatever they hold
abbrev pub CopyGivesCells : Type 0
CopyGivesCells =
    (m new : Memory) (to from : Ptr) (size align : ℕ) → copy_at m to from size align ≡ Ok new
    → row_at new to size ≡ row_at m from size

-- so a load within the target reads what one within the source read
abbrev pub CopyGivesLoads : Type 0
CopyGivesLoads =
    (m new : Memory) (to from : Ptr) (size align k width : ℕ) (pointer : Bool) → copy_at m to from size align ≡ Ok new
    → 0 < width → k + width ≤ size →
    (place_of to.offset + k) % width ≡ 0 → (place_of from.offset + k) % width ≡ 0 →
    load_at new (ptr_plus to (pos k)) width pointer ≡ load_at m (ptr_plus from (pos k)) width pointer

-- an object past the list is none
abbrev pub NoObjectPast : Type 0
NoObjectPast = (m : Memory) (id : ℕ) → length m ≤ id → object_at m id ≡ no_object

-- an object that ends is none, and leaves the others
pub record EndChanges (m : Memory) (id : ℕ) : Type 0 where
  pub count : length (end_object m id) ≡ length m
  pub here : object_at (end_object m id) id ≡ no_object
  pub others : (k : ℕ) → k ≢ id → object_at (end_object m id) k ≡ object_at m k

-- a new object has the next number, and leaves the others
pub record BeginChanges (m : Memory) (size : ℕ) (writable : Bool) : Type 0 where
  pub count : length (begin_object m size writable) ≡ length m + 1
  pub here : object_at (begin_object m size writable) (length m) ≡ fresh_object size writable
  pub others : (k : ℕ) → k ≢ length m → object_at (begin_object m size writable) k ≡ object_at m k

-- several objects begin with the next numbers in order, and leave the others
pub record BeginsChange (m : Memory) (sizes : List ℕ) : Type 0 where
  pub count : length (begin_objects m sizes) ≡ length m + length sizes
  pub here : (k : ℕ) → k < length sizes
      → object_at (begin_objects m sizes) (length m + k) ≡ fresh_object (slice_index sizes k) true
  pub others : (k : ℕ) → (k < length m) ⊎ (length m + length sizes ≤ k)
      → object_at (begin_objects m sizes) k ≡ object_at m k

-- several objects end, and leave the others
pub record EndsChange (m : Memory) (first count : ℕ) : Type 0 where
  pub count_is : length (end_objects m first count) ≡ length m
  pub here : (k : ℕ) → k < count → object_at (end_objects m first count) (first + k) ≡ no_object
  pub others : (k : ℕ) → (k < first) ⊎ (first + count ≤ k) → object_at (end_objects m first count) k ≡ object_at m k
