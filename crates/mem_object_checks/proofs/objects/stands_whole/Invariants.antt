use Rattle.std.proofs.Common.{◌≡◌, ℕ, ◌+◌, ◌<◌, slice_get, Some}
use Rattle.mem_objects.specs.declared.DataCell.TheVariants.{AddressPart}
use Rattle.mem_object_checks.proofs.objects.stands_whole.Given as goal

abbrev pub invariant-loop-part : goal.invariant-loop-part
invariant-loop-part l =
    (k : ℕ) → k < l.part → slice_get l.cells (l.first + k) ≡ Some (AddressPart l.address l.moved k)
