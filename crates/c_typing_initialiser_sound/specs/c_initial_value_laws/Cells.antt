-- Lawful cells of an object that a program may write, among the objects of static storage of its unit.
use Rattle.std.specs.Prelude.{◌≡◌, ℕ, ◌*◌, ◌/◌, ◌<◌, ◌≤◌, List, length, slice_get, Option, Some, None}
use Rattle.c_typing_constants.specs.declared.c_constant_rules.addresses.Address.{Address}
use Rattle.mem_objects.specs.declared.DataObject.{DataObject}
use Rattle.mem_objects.specs.declared.DataCell.{DataCell}
use Rattle.mem_objects.specs.declared.DataCell.TheVariants.{Byte, AddressPart}
use Rattle.mem_objects.specs.Globals.{Reaches, StandsWhole}
use Rattle.c_typing_initial_values.specs.declared.values.InitialValue.{InitialValue}
use Rattle.c_typing_initial_values.specs.declared.values.InitialValue.TheVariants as v

-- ---- addresses

-- an object of so many bytes is there
abbrev pub ObjectHasSize : (size : ℕ) → Option DataObject → Type 0
ObjectHasSize size None = ⊥
ObjectHasSize size (Some o) = o.size ≡ size

-- an address lies in its object, or at its end
pub record IsAddressIn (globals : List DataObject) (a : Address) : Type 0 where
  pub there : ObjectHasSize a.size (slice_get globals a.global)
  pub within : a.plus ≤ a.size

abbrev pub IsValueIn : List DataObject → InitialValue → Type 0
IsValueIn globals (v.Word of word) = Unit {0}
IsValueIn globals v.Null = Unit {0}
IsValueIn globals (v.Address a) = IsAddressIn globals a

-- ---- cells

-- as `IsLawfulCell` of `mem_objects` asks of the cells of an object that may be written
abbrev pub IsCellIn : List DataObject → List DataCell → (at : ℕ) → DataCell → Type 0
IsCellIn globals cells at (Byte b) = b < 256
IsCellIn globals cells at (AddressPart global plus part) =
    StandsWhole cells (at / 8 * 8) global plus × Reaches plus (slice_get globals global)

-- lawful cells that go no further than a place
pub record AreInitialCells (globals : List DataObject) (end : ℕ) (cells : List DataCell) : Type 0 where
  pub within : length cells ≤ end
  pub lawful : (at : ℕ) (x : DataCell) → slice_get cells at ≡ Some x → IsCellIn globals cells at x
