-- What a row of cells stands for (C99 6.2.6.1), and a list in which a row of cells was written.
use Rattle.std.specs.Prelude.{ℕ, zero, suc, ◌+◌, ◌*◌, ◌/◌, ◌%◌, ◌==◌, ◌&&◌, Bool, true, false, List, [], ◌∷◌, ◌++◌, length, take, drop, replicate, Option, Some, None, Result, Err, option_map, option_and_then, ok_or, if◌then◌else◌}
use Rattle.std.specs.Ordering.{int_eq}
use Rattle.std.specs.List.{list_any}
use Rattle.mem_model.specs.declared.value.Ptr.{Ptr}
use Rattle.mem_model.specs.declared.value.Value.{Value}
use Rattle.mem_model.specs.declared.value.Value.TheVariants.{Word, Address, Unset}
use Rattle.mem_model.specs.declared.value.Cell.{Cell}
use Rattle.mem_model.specs.declared.value.Cell.TheVariants.{Empty, Byte, Part}
use Rattle.mem_model.specs.declared.value.MemFault.{MemFault}
use Rattle.mem_model.specs.declared.value.MemFault.TheVariants.{Never, PartPointer}

-- the low bytes of a number, the least first
unfoldable pub bytes_of : (width : ℕ) → ℕ → List Cell
bytes_of zero n = []
bytes_of (suc width) n = Byte (n % 256) ∷ bytes_of width (n / 256)

-- the eight parts of a pointer, in order
unfoldable pub parts_of : Ptr → List Cell
parts_of p = Part p 0 ∷ Part p 1 ∷ Part p 2 ∷ Part p 3 ∷ Part p 4 ∷ Part p 5 ∷ Part p 6 ∷ Part p 7 ∷ []

-- the cells that a value fills, of the width of a number
unfoldable pub cells_of : (width : ℕ) → Value → List Cell
cells_of width (Word n) = bytes_of width n
cells_of width (Address p) = parts_of p
cells_of width Unset = replicate width Empty

-- the number whose bytes the cells are, the least first
unfoldable pub number_of : List Cell → Option ℕ
number_of [] = Some 0
number_of (Byte b ∷ cells) = option_map (λ n. b + 256 * n) (number_of cells)
number_of (_ ∷ cells) = None

-- two cells, and two rows of cells, hold the same
abbrev pub cell_eq : Cell → Cell → Bool
cell_eq Empty Empty = true
cell_eq (Byte a) (Byte b) = a == b
cell_eq (Part p j) (Part q k) = p.object == q.object && int_eq p.offset q.offset && j == k
cell_eq _ _ = false

abbrev pub cells_eq : List Cell → List Cell → Bool
cells_eq [] [] = true
cells_eq (c ∷ cs) (d ∷ ds) = cell_eq c d && cells_eq cs ds
cells_eq _ _ = false

-- the pointer of which the first cell is a part
abbrev pub first_pointer : List Cell → Option Ptr
first_pointer (Part p k ∷ cells) = Some p
first_pointer _ = None

-- the pointer whose eight parts the cells are in order, or null, of eight zero bytes
unfoldable pub pointer_of : List Cell → Option Value
pointer_of cells =
    if cells_eq cells (bytes_of 8 0) then Some (Word 0)
    else option_and_then (λ p. if cells_eq cells (parts_of p) then Some (Address p) else None) (first_pointer cells)

-- the value of the cells, as a number or as a pointer
abbrev pub value_of : (pointer : Bool) → List Cell → Option Value
value_of false cells = option_map Word (number_of cells)
value_of true cells = pointer_of cells

-- a cell that was never written
abbrev pub is_empty : Cell → Bool
is_empty Empty = true
is_empty _ = false

-- what a load of the cells answers
unfoldable pub value_or_fault : (pointer : Bool) → List Cell → Result Value MemFault
value_or_fault pointer cells = if list_any is_empty cells then Err Never else ok_or (value_of pointer cells) PartPointer

-- the list with a row of cells in it from a place on
abbrev pub with_row : List Cell → ℕ → List Cell → List Cell
with_row cells at row = take at cells ++ (row ++ drop (at + length row) cells)
