-- The laws of flat bytes that stand for a memory of objects: what is read, written, begins and ends corresponds.
use Rattle.std.specs.Prelude.{◌≡◌, ℕ, ◌+◌, ◌%◌, ◌^◌, ◌<◌, ◌≤◌, Bool, true, List, ◌++◌, length, map, slice_get, Some, None, Ok}
use Rattle.mem_model.specs.declared.value.Ptr.{Ptr}
use Rattle.mem_model.specs.declared.value.Value.{Value}
use Rattle.mem_model.specs.declared.value.Cell.{Cell}
use Rattle.mem_model.specs.Cells.{number_of, pointer_of, cells_of}
use Rattle.mem_model.specs.Memory.{Memory, object_at, row_at, put_row, read_fault, load_at, store_at, copy_at, begin_objects, end_objects, IsWidth, IsStorable}
use Rattle.mem_model.specs.Laws.{CanPut}
use Rattle.mem_model.specs.Bytes.{AreBytes}
use Rattle.frame_memory.specs.Bytes.{Bytes, bytes_from, put_bytes, low_bytes, number_from}
use Rattle.frame_memory.specs.Relation.{Extent, IsExtent, Extents, IsAddressOf, ValueIs, CellsAre, Owners, OfObject, MemoryIs}

-- ---- numbers and cells

-- bytes are those of their number, and a number that fits is that of its bytes
abbrev pub BytesComeBack : Type 0
BytesComeBack = (bs : List ℕ) → AreBytes bs → low_bytes (length bs) (number_from bs) ≡ bs

abbrev pub NumbersComeBack : Type 0
NumbersComeBack = (count n : ℕ) → n < 256 ^ count → number_from (low_bytes count n) ≡ n

-- what cells are as a number or as a pointer, their bytes are,
abbrev pub NumbersAreRead : Type 0
NumbersAreRead =
    (xs : Extents) (cs : List Cell) (bs : List ℕ) (n : ℕ) → CellsAre xs cs bs → number_of cs ≡ Some n →
    number_from bs ≡ n

abbrev pub PointersAreRead : Type 0
PointersAreRead =
    (xs : Extents) (cs : List Cell) (bs : List ℕ) (v : Value) → CellsAre xs cs bs → pointer_of cs ≡ Some v →
    ValueIs xs v (number_from bs)

-- and the low bytes of a word stand for the cells of the value that it stands for
abbrev pub ValuesHaveBytes : Type 0
ValuesHaveBytes =
    (xs : Extents) (width : ℕ) (v : Value) (w : ℕ) → ValueIs xs v w → IsStorable width v →
    CellsAre xs (cells_of width v) (low_bytes width w)

-- ---- accesses

-- so many bytes from an address on are those of a range in an object, and aligned
pub record IsRangeAt (owner : Owners) (p : Ptr) (a size align : ℕ) : Type 0 where
  pub aligned : a % align ≡ 0
  pub owned : (i : ℕ) → i < size → owner (a + i) ≡ OfObject p.object

-- where nothing is wrong with reading a range, its bytes stand for its cells
pub record IsRowThere (xs : Extents) (memory : Memory) (owner : Owners) (m : Bytes) (p : Ptr) (a size align : ℕ) :
    Type 0 where
  pub range : IsRangeAt owner p a size align
  pub cells : CellsAre xs (row_at memory p size) (bytes_from m a size)

abbrev pub RowsAreThere : Type 0
RowsAreThere =
    (xs : Extents) (memory : Memory) (owner : Owners) (m : Bytes) → MemoryIs xs memory owner m →
    (p : Ptr) (a size align : ℕ) → IsAddressOf xs p a → IsWidth align → read_fault memory p size align ≡ None →
    IsRowThere xs memory owner m p a size align

-- a load gives the value for which the word of the bytes stands
pub record IsLoadAt (xs : Extents) (owner : Owners) (m : Bytes) (p : Ptr) (a width : ℕ) (v : Value) : Type 0 where
  pub range : IsRangeAt owner p a width width
  pub value : ValueIs xs v (number_from (bytes_from m a width))

abbrev pub LoadsAreRead : Type 0
LoadsAreRead =
    (xs : Extents) (memory : Memory) (owner : Owners) (m : Bytes) → MemoryIs xs memory owner m →
    (p : Ptr) (a width : ℕ) (pointer : Bool) (v : Value) → IsAddressOf xs p a → IsWidth width →
    load_at memory p width pointer ≡ Ok v → IsLoadAt xs owner m p a width v

-- a row of cells that is put, by bytes that stand for it
abbrev pub RowsArePut : Type 0
RowsArePut =
    (xs : Extents) (memory : Memory) (owner : Owners) (m : Bytes) → MemoryIs xs memory owner m →
    (p : Ptr) (a : ℕ) (row : List Cell) (bs : List ℕ) → IsAddressOf xs p a → CellsAre xs row bs → AreBytes bs →
    CanPut memory p row → MemoryIs xs (put_row memory p row) owner (put_bytes m a bs)

-- a store puts the low bytes of the word of its value
pub record IsStoreAt (xs : Extents) (new : Memory) (owner : Owners) (m : Bytes) (p : Ptr) (a width w : ℕ) : Type 0
  where
    pub range : IsRangeAt owner p a width width
    pub memory : MemoryIs xs new owner (put_bytes m a (low_bytes width w))

abbrev pub StoresArePut : Type 0
StoresArePut =
    (xs : Extents) (memory new : Memory) (owner : Owners) (m : Bytes) → MemoryIs xs memory owner m →
    (p : Ptr) (a width : ℕ) (v : Value) (w : ℕ) → IsAddressOf xs p a → IsWidth width → IsStorable width v →
    ValueIs xs v w → store_at memory p width v ≡ Ok new → IsStoreAt xs new owner m p a width w

-- a copy puts the bytes of its source
pub record IsCopyAt (xs : Extents) (new : Memory) (owner : Owners) (m : Bytes) (to from : Ptr) (a b size align : ℕ) :
    Type 0 where
  pub target : IsRangeAt owner to a size align
  pub source : IsRangeAt owner from b size align
  pub memory : MemoryIs xs new owner (put_bytes m a (bytes_from m b size))

abbrev pub CopiesArePut : Type 0
CopiesArePut =
    (xs : Extents) (memory new : Memory) (owner : Owners) (m : Bytes) → MemoryIs xs memory owner m →
    (to from : Ptr) (a b size align : ℕ) → IsAddressOf xs to a → IsAddressOf xs from b → IsWidth align →
    copy_at memory to from size align ≡ Ok new → IsCopyAt xs new owner m to from a b size align

-- ---- objects

-- more extents keep what stands for a value, and for a row of cells
abbrev pub MoreExtents : Extents → Extents → Type 0
MoreExtents xs ys = (o : ℕ) (e : Extent) → slice_get xs o ≡ Some e → slice_get ys o ≡ Some e

abbrev pub ExtentsGrow : Type 0
ExtentsGrow = (xs ys : Extents) → MoreExtents xs (xs ++ ys)

abbrev pub FlatValuesStay : Type 0
FlatValuesStay = (xs ys : Extents) (v : Value) (w : ℕ) → MoreExtents xs ys → ValueIs xs v w → ValueIs ys v w

abbrev pub CellsStay : Type 0
CellsStay =
    (xs ys : Extents) (cs : List Cell) (bs : List ℕ) → MoreExtents xs ys → CellsAre xs cs bs → CellsAre ys cs bs

-- what bytes the live objects own, they own still
abbrev pub KeepsOwners : Memory → Owners → Owners → Type 0
KeepsOwners memory old new =
    (y o : ℕ) → (object_at memory o).live ≡ true → old y ≡ OfObject o → new y ≡ OfObject o

-- other bytes may change, and other owners
pub record KeepsLiveBytes (memory : Memory) (old new : Owners) (m k : Bytes) : Type 0 where
  pub owners : KeepsOwners memory old new
  pub same : (y o : ℕ) → (object_at memory o).live ≡ true → old y ≡ OfObject o → k y ≡ m y
  pub bytes : (y : ℕ) → k y < 256

abbrev pub OthersMayChange : Type 0
OthersMayChange =
    (xs : Extents) (memory : Memory) (old new : Owners) (m k : Bytes) → MemoryIs xs memory old m →
    KeepsLiveBytes memory old new m k → MemoryIs xs memory new k

-- objects begin where nobody's bytes were: with the next numbers, and whatever bytes stand there
pub record AreNew (memory : Memory) (new : Owners) (extents : Extents) (sizes : List ℕ) : Type 0 where
  pub sizes_are : map (λ (e : Extent). e.size) extents ≡ sizes
  pub sound : (k : ℕ) (e : Extent) → slice_get extents k ≡ Some e → IsExtent e
  pub own : (k : ℕ) (e : Extent) → slice_get extents k ≡ Some e → (y : ℕ) → e.base ≤ y → y < e.base + e.size →
      new y ≡ OfObject (length memory + k)

abbrev pub FlatObjectsBegin : Type 0
FlatObjectsBegin =
    (xs : Extents) (memory : Memory) (old new : Owners) (m : Bytes) (extents : Extents) (sizes : List ℕ) →
    MemoryIs xs memory old m → KeepsOwners memory old new → AreNew memory new extents sizes →
    MemoryIs (xs ++ extents) (begin_objects memory sizes) new m

-- objects end, and their bytes may be anyone's
abbrev pub FlatObjectsEnd : Type 0
FlatObjectsEnd =
    (xs : Extents) (memory : Memory) (old new : Owners) (m : Bytes) (first count : ℕ) → MemoryIs xs memory old m →
    KeepsOwners (end_objects memory first count) old new → MemoryIs xs (end_objects memory first count) new m
