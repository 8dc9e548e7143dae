-- The memory of objects: what each access answers, and the memory that it leaves.
-- A pointer is an object and an offset (C99 6.5.6), and an object lives until it ends (C99 6.2.4). Each access
-- has a list of faults in their order, and the first that holds is its answer. An access without a fault reads
-- the row of cells at its place, or puts one there; a value stands in front of the row.
use Rattle.std.specs.Prelude.{◌≡◌, ℕ, zero, suc, ◌+◌, ◌%◌, ◌<◌, ◌==◌, nat_lt, not, ◌&&◌, ◌||◌, ℤ, pos, negsuc, unsigned_abs, ◌⊎◌, Bool, true, false, List, [], ◌∷◌, ◌++◌, map, length, take, drop, replicate, slice_index_or, slice_set, Option, Some, None, Result, Ok, Err, if◌then◌else◌}
use Rattle.mem_model.specs.declared.value.Ptr.{Ptr}
use Rattle.mem_model.specs.declared.value.Value.{Value}
use Rattle.mem_model.specs.declared.value.Value.TheVariants.{Word, Address, Unset}
use Rattle.mem_model.specs.declared.value.Cell.{Cell}
use Rattle.mem_model.specs.declared.value.Cell.TheVariants.{Empty, Byte}
use Rattle.mem_model.specs.declared.value.MemFault.{MemFault}
use Rattle.mem_model.specs.declared.value.MemFault.TheVariants.{NoObject, Outside, Misaligned, ReadOnly}
use Rattle.mem_model.specs.Cells.{value_or_fault, cells_of, with_row}

-- an object: whether it lives, whether a store may write it, and its cells, whose count is its size
pub record Object : Type 0 where
  pub live : Bool
  pub writable : Bool
  pub cells : List Cell

-- all objects ever made, by their numbers
abbrev pub Memory : Type 0
Memory = List Object

-- what stands for an object that was never made, and is left of one that has ended
abbrev pub no_object : Object
no_object = record { live = false; writable = false; cells = [] }

-- the object with a number (C99 6.2.4)
abbrev pub object_at : Memory → ℕ → Object
object_at m id = slice_index_or m id no_object

-- an object at its making
abbrev pub fresh_object : (size : ℕ) → (writable : Bool) → Object
fresh_object size writable = record { live = true; writable = writable; cells = replicate size Empty }

-- an object is made, whose number is how many were made before it; an object ends
abbrev pub begin_object : Memory → (size : ℕ) → (writable : Bool) → Memory
begin_object m size writable = m ++ fresh_object size writable ∷ []

abbrev pub end_object : Memory → ℕ → Memory
end_object m id = slice_set m id no_object

-- writable objects of these sizes are made, and so many objects end, from a number on
abbrev pub begin_objects : Memory → (sizes : List ℕ) → Memory
begin_objects m [] = m
begin_objects m (size ∷ sizes) = begin_objects (begin_object m size true) sizes

abbrev pub end_objects : Memory → (first count : ℕ) → Memory
end_objects m first zero = m
end_objects m first (suc count) = end_objects (end_object m first) (suc first) count

-- the place that an offset names, where it is not below 0
abbrev pub place_of : ℤ → ℕ
place_of offset = unsigned_abs offset

-- so many bytes from an offset on lie within a length (C99 6.5.6)
abbrev pub is_within : ℤ → (size length : ℕ) → Bool
is_within (pos at) size length = not (nat_lt length (at + size))
is_within (negsuc n) size length = false

-- the tests of the faults. The object was never made or has ended (C99 6.2.4)
abbrev pub is_gone : Memory → Ptr → Bool
is_gone m p = not (object_at m p.object).live

-- One of so many bytes lies outside the object (C99 6.5.6)
abbrev pub is_outside : Memory → Ptr → (size : ℕ) → Bool
is_outside m p size = nat_lt 0 size && not (is_within p.offset size (length (object_at m p.object).cells))

-- The offset is no multiple of an alignment (C99 6.3.2.3)
abbrev pub is_misaligned : Ptr → (align : ℕ) → Bool
is_misaligned p align = not (place_of p.offset % align == 0)

-- The object may not be written (C99 6.4.5)
abbrev pub is_read_only : Memory → Ptr → Bool
is_read_only m p = not (object_at m p.object).writable

-- Two ranges of so many bytes share a byte, and are not the same (C99 6.5.16.1)
abbrev pub overlaps : Ptr → Ptr → (size : ℕ) → Bool
overlaps p q size =
    p.object == q.object && not (place_of p.offset == place_of q.offset)
    && nat_lt (place_of p.offset) (place_of q.offset + size) && nat_lt (place_of q.offset) (place_of p.offset + size)

-- the first fault of a list whose test holds
abbrev pub first_fault : List (Bool × MemFault) → Option MemFault
first_fault [] = None
first_fault (x ∷ xs) = if x.0 then Some x.1 else first_fault xs

-- the fault of a range of so many bytes, and of reading and writing so many bytes at an alignment
abbrev pub range_fault : Memory → Ptr → (size : ℕ) → Option MemFault
range_fault m p size = first_fault ((is_gone m p, NoObject) ∷ (is_outside m p size, Outside) ∷ [])

abbrev pub read_fault : Memory → Ptr → (size align : ℕ) → Option MemFault
read_fault m p size align =
    first_fault ((is_gone m p, NoObject) ∷ (is_outside m p size, Outside) ∷ (is_misaligned p align, Misaligned) ∷ [])

abbrev pub write_fault : Memory → Ptr → (size align : ℕ) → Option MemFault
write_fault m p size align =
    first_fault ((is_gone m p, NoObject) ∷ (is_outside m p size, Outside) ∷ (is_misaligned p align, Misaligned) ∷
    (is_read_only m p, ReadOnly) ∷ [])

-- the fault of a copy of so many bytes
abbrev pub copy_fault : Memory → (to from : Ptr) → (size align : ℕ) → Option MemFault
copy_fault m to from size align =
    first_fault (
    (is_gone m to || is_gone m from, NoObject)
    ∷ (is_outside m to size || is_outside m from size || overlaps to from size, Outside)
    ∷ (is_misaligned to align || is_misaligned from align, Misaligned)
    ∷ (is_read_only m to, ReadOnly)
    ∷ [])

-- the row of cells from a pointer on
abbrev pub row_at : Memory → Ptr → (size : ℕ) → List Cell
row_at m p size = take size (drop (place_of p.offset) (object_at m p.object).cells)

-- the memory with a row of cells put there
abbrev pub put_row : Memory → Ptr → List Cell → Memory
put_row m p row =
    slice_set m p.object (record (object_at m p.object)
    { cells = with_row (object_at m p.object).cells (place_of p.offset) row })

-- a fault, where there is one, and else what is answered
abbrev pub fault_or : {A : Type 0} → Option MemFault → Result A MemFault → Result A MemFault
fault_or None answer = answer
fault_or (Some fault) answer = Err fault

-- a load of so many bytes, as a number or as a pointer
unfoldable pub load_at : Memory → Ptr → (width : ℕ) → (pointer : Bool) → Result Value MemFault
load_at m p width pointer = fault_or (read_fault m p width width) (value_or_fault pointer (row_at m p width))

-- a store of a value
unfoldable pub store_at : Memory → Ptr → (width : ℕ) → Value → Result Memory MemFault
store_at m p width v = fault_or (write_fault m p width width) (Ok (put_row m p (cells_of width v)))

-- a copy of so many cells, as they are
unfoldable pub copy_at : Memory → (to from : Ptr) → (size align : ℕ) → Result Memory MemFault
copy_at m to from size align = fault_or (copy_fault m to from size align) (Ok (put_row m to (row_at m from size)))

-- the byte of a value that is one
abbrev pub byte_of : Value → Cell
byte_of (Word n) = Byte n
byte_of _ = Empty

-- the bytes of an object at its making
unfoldable pub init_at : Memory → Ptr → List Value → Result Memory MemFault
init_at m p values = fault_or (range_fault m p (length values)) (Ok (put_row m p (map byte_of values)))

-- the widths of an access
abbrev pub IsWidth : ℕ → Type 0
IsWidth width = (width ≡ 1) ⊎ (width ≡ 2) ⊎ (width ≡ 4) ⊎ (width ≡ 8)

-- the values that a store takes: a number, or a pointer at the width 8
abbrev pub IsStorable : (width : ℕ) → Value → Type 0
IsStorable width (Word n) = Unit {0}
IsStorable width (Address p) = width ≡ 8
IsStorable width Unset = ⊥

-- the values that are a byte
abbrev pub IsByte : Value → Type 0
IsByte (Word n) = n < 256
IsByte (Address p) = ⊥
IsByte Unset = ⊥
