-- The laws of memories whose objects have other numbers: reading, writing and new names keep what corresponds.
use Rattle.std.specs.Prelude.{◌≡◌, ℕ, Bool, List, length, take, drop, replicate, Some, Ok}
use Rattle.mem_model.specs.declared.value.Value.{Value}
use Rattle.mem_model.specs.declared.value.Cell.{Cell}
use Rattle.mem_model.specs.declared.value.Cell.TheVariants.{Empty}
use Rattle.mem_model.specs.Cells.{cells_of, value_or_fault, with_row}
use Rattle.mem_model.specs.Memory.{IsStorable}
use Rattle.mem_model.specs.Related.{Names, IsValueOf, IsRowOf}

-- a row that stands for another one is as long, and so are its parts
abbrev pub RowsAreAsLong : Type 0
RowsAreAsLong = (f : Names) (cs ds : List Cell) → IsRowOf f cs ds → length ds ≡ length cs

abbrev pub RowsHaveParts : Type 0
RowsHaveParts =
    (f : Names) (at size : ℕ) (cs ds : List Cell) → IsRowOf f cs ds → IsRowOf f (take size (drop at cs))
    (take size (drop at ds))

-- what is read from the first row is read, as it corresponds, from the second
abbrev pub RowsAreRead : Type 0
RowsAreRead =
    (f : Names) (pointer : Bool) (cs ds : List Cell) (v : Value) → IsRowOf f cs ds → value_or_fault pointer cs ≡ Ok v →
    (w : Value) × (value_or_fault pointer ds ≡ Ok w) × IsValueOf f v w

-- the rows of values that correspond do, and rows written into rows
abbrev pub ValuesHaveRows : Type 0
ValuesHaveRows =
    (f : Names) (width : ℕ) (v w : Value) → IsValueOf f v w → IsStorable width v
    → IsRowOf f (cells_of width v) (cells_of width w)

abbrev pub RowsAreWritten : Type 0
RowsAreWritten =
    (f : Names) (at : ℕ) (cs ds row new : List Cell) → IsRowOf f cs ds → IsRowOf f row new
    → IsRowOf f (with_row cs at row) (with_row ds at new)

-- for a new object any cells will do
abbrev pub FreshRows : Type 0
FreshRows = (f : Names) (size : ℕ) (ds : List Cell) → length ds ≡ size → IsRowOf f (replicate size Empty) ds

-- more names keep what corresponds
abbrev pub MoreNames : Names → Names → Type 0
MoreNames f g = (o p : ℕ) → f o ≡ Some p → g o ≡ Some p

abbrev pub NamesGrow : Type 0
NamesGrow = (f g : Names) (cs ds : List Cell) → MoreNames f g → IsRowOf f cs ds → IsRowOf g cs ds

abbrev pub ValuesStay : Type 0
ValuesStay = (f g : Names) (v w : Value) → MoreNames f g → IsValueOf f v w → IsValueOf g v w
