-- Cells of static storage that are put together.
use Rattle.std.specs.Prelude.{◌≡◌, ℕ, ◌<◌, List, slice_get, Some}
use Rattle.mem_objects.specs.declared.DataCell.{DataCell}
use Rattle.mem_objects.specs.declared.DataCell.TheVariants.{AddressPart}

-- the first cells are so many parts of an address, in order
abbrev pub HasParts : List DataCell → (global plus count : ℕ) → Type 0
HasParts cells global plus count = (k : ℕ) → k < count → slice_get cells k ≡ Some (AddressPart global plus k)
