-- How the cells of an object are kept: a mark for each cell, and a table of pointers.
use Rattle.std.specs.Prelude.{◌≡◌, ◌≢◌, ℕ, ◌+◌, ◌/◌, ◌%◌, ◌<◌, List, map, length, slice_index_or}
use Rattle.std.specs.List.{range_with_len}
use Rattle.mem_model.specs.declared.value.Ptr.{Ptr}
use Rattle.mem_model.specs.declared.value.Cell.{Cell}
use Rattle.mem_model.specs.declared.value.Cell.TheVariants.{Empty, Byte, Part}
use Rattle.mem_model.specs.model.Table.{pointer_at}
use Rattle.mem_model.specs.declared.cells.Mark.{Mark}
use Rattle.mem_model.specs.declared.cells.Mark.TheVariants.{Unwritten, Number, Home, Stray}

-- the slots of homes: eight cells in a row share one
abbrev pub homes_of : ℕ → ℕ
homes_of size = size / 8 + 1

-- what the cell with a mark holds: a part at home is that of its group, at its own place in the group;
-- a stray part has a slot of its own, behind the homes
abbrev pub cell_of : List Ptr → (homes at : ℕ) → Mark → Cell
cell_of pointers homes at Unwritten = Empty
cell_of pointers homes at (Number b) = Byte b
cell_of pointers homes at Home = Part (pointer_at pointers (at / 8)) (at % 8)
cell_of pointers homes at (Stray k) = Part (pointer_at pointers (homes + at)) k

-- the cells that are kept
unfoldable pub cells_kept : List Mark → List Ptr → List Cell
cells_kept marks pointers =
    map (λ at. cell_of pointers (homes_of (length marks)) at (slice_index_or marks at Unwritten))
    (range_with_len 0 (length marks))

-- a cell other than this one holds a part at home in the group of the two
pub record IsOtherHome (marks : List Mark) (at k : ℕ) : Type 0 where
  pub within : k < length marks
  pub group : k / 8 ≡ at / 8
  pub other : k ≢ at
  pub home : slice_index_or marks k Unwritten ≡ Home
