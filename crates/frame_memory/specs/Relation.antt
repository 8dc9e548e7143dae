-- When flat bytes stand for a memory of objects. Each object that was ever made has an extent, and no byte has two
-- owners. A pointer is the address at which its object begins plus its offset. A cell that is a byte is that byte, a
-- part of a pointer is that byte of its address, an empty cell is any byte, and what is unset is any word.
use Rattle.std.specs.Prelude.{◌≡◌, ℕ, suc, ◌+◌, ◌%◌, ◌^◌, ◌<◌, ◌≤◌, pos, true, List, [], ◌∷◌, length, Some, slice_get, slice_index}
use Rattle.mem_model.specs.declared.value.Ptr.{Ptr}
use Rattle.mem_model.specs.declared.value.Value.{Value}
use Rattle.mem_model.specs.declared.value.Value.TheVariants.{Word, Address, Unset}
use Rattle.mem_model.specs.declared.value.Cell.{Cell}
use Rattle.mem_model.specs.declared.value.Cell.TheVariants.{Empty, Byte, Part}
use Rattle.mem_model.specs.Memory.{Memory, Object, object_at}
use Rattle.frame_memory.specs.Bytes.{Bytes, low_bytes}

-- ---- addresses

-- where an object lies, or lay until it ended: its first address and its size
pub record Extent : Type 0 where
  pub base : ℕ
  pub size : ℕ

-- an object begins at a multiple of 8, so each access that is aligned in it is aligned, and never at null; its end is
-- an address too
pub record IsExtent (e : Extent) : Type 0 where
  pub above : 0 < e.base
  pub aligned : e.base % 8 ≡ 0
  pub small : e.base + e.size < 2 ^ 64

-- the extents of all objects ever made, by their numbers
abbrev pub Extents : Type 0
Extents = List Extent

-- a word is the address of a pointer, which stands within its object or at its end
pub record IsAddressOf (xs : Extents) (p : Ptr) (w : ℕ) : Type 0 where
  pub extent : Extent
  pub made : slice_get xs p.object ≡ Some extent
  pub sound : IsExtent extent
  pub at : ℕ
  pub offset : p.offset ≡ pos at
  pub within : at ≤ extent.size
  pub place : w ≡ extent.base + at

-- ---- values and cells

-- a word stands for a value
abbrev pub ValueIs : Extents → Value → (word : ℕ) → Type 0
ValueIs xs (Word n) w = w ≡ n
ValueIs xs (Address p) w = IsAddressOf xs p w
ValueIs xs Unset w = Unit {0}

-- a byte stands for a cell
abbrev pub CellIs : Extents → Cell → (byte : ℕ) → Type 0
CellIs xs Empty x = Unit {0}
CellIs xs (Byte b) x = x ≡ b
CellIs xs (Part p k) x = (w : ℕ) × IsAddressOf xs p w × (x ≡ slice_index (low_bytes 8 w) k)

abbrev pub CellsAre : Extents → List Cell → (bytes : List ℕ) → Type 0
CellsAre xs [] [] = Unit {0}
CellsAre xs (c ∷ cs) (b ∷ bs) = CellIs xs c b × CellsAre xs cs bs
CellsAre xs _ _ = ⊥

-- the bytes from an address on stand for cells
abbrev pub CellsAreAt : Extents → Bytes → (address : ℕ) → List Cell → Type 0
CellsAreAt xs m a [] = Unit {0}
CellsAreAt xs m a (c ∷ cs) = CellIs xs c (m a) × CellsAreAt xs m (suc a) cs

-- ---- owners

-- what a byte of a call's frame is part of: the slot of a temporary, the return address, a saved register, an argument
-- of the next call from the seventh on, or nothing
pub data FramePiece : Type 0 where
  SlotPiece : (temporary : ℕ) → FramePiece
  ReturnPiece : FramePiece
  SavedPiece : (register : ℕ) → FramePiece
  ArgumentPiece : (number : ℕ) → FramePiece
  NoPiece : FramePiece

-- whose byte stands at an address: an object's, that of the frame of the call at a depth, or nobody's
pub data Owner : Type 0 where
  OfObject : (object : ℕ) → Owner
  OfFrame : (depth : ℕ) → FramePiece → Owner
  Nobody : Owner

abbrev pub Owners : Type 0
Owners = (address : ℕ) → Owner

-- ---- memories

-- bytes stand for a live object, which owns them
pub record ObjectIs (xs : Extents) (x : Object) (owner : Owners) (m : Bytes) (o : ℕ) : Type 0 where
  pub extent : Extent
  pub made : slice_get xs o ≡ Some extent
  pub sound : IsExtent extent
  pub size : length x.cells ≡ extent.size
  pub cells : CellsAreAt xs m extent.base x.cells
  pub own : (y : ℕ) → extent.base ≤ y → y < extent.base + extent.size → owner y ≡ OfObject o

-- bytes stand for a memory
pub record MemoryIs (xs : Extents) (memory : Memory) (owner : Owners) (m : Bytes) : Type 0 where
  pub each : (o : ℕ) → (object_at memory o).live ≡ true → ObjectIs xs (object_at memory o) owner m o
  pub count : length xs ≡ length memory
  pub bytes : (y : ℕ) → m y < 256
