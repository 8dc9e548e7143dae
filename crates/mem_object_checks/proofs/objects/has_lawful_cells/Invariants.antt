use Rattle.std.proofs.Common.{◌≡◌, ℕ, ◌<◌, slice_get, Some}
use Rattle.mem_objects.specs.declared.DataCell.{DataCell}
use Rattle.mem_objects.specs.Globals.{IsLawfulCell}
use Rattle.mem_object_checks.proofs.objects.has_lawful_cells.Given as goal

abbrev pub invariant-loop-at : goal.invariant-loop-at
invariant-loop-at l =
    (k : ℕ) (c : DataCell) → k < l.at → slice_get l.cells k ≡ Some c → IsLawfulCell l.globals l.object k c
