-- The zeros so far are put.
use Rattle.std.proofs.Common.{◌≤◌, ◌-◌, replicate}
use Rattle.mem_model.specs.declared.value.Cell.TheVariants as cell
use Rattle.suifvm_operations.specs.model.Fills.{Adds}
use Rattle.suifvm_operations.proofs.start.put_zeros.Given as goal

abbrev pub invariant-loop-at : goal.invariant-loop-at
invariant-loop-at l = record {
  order : l.first ≤ l.at;
  within : l.at ≤ l.end;
  adds : Adds l.initial.memory l.memory l.object l.first (replicate (l.at - l.first) (cell.Byte 0));
}

abbrev pub decreases-loop-at : goal.decreases-loop-at
decreases-loop-at l = l.end - l.at
