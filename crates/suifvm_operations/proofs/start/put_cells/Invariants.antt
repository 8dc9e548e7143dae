-- The cells so far are put.
use Rattle.std.proofs.Common.{◌≤◌, ◌-◌, length, map, take}
use Rattle.mem_objects.specs.Start.{memory_cell}
use Rattle.suifvm_operations.specs.model.Fills.{Adds}
use Rattle.suifvm_operations.proofs.start.put_cells.Given as goal

abbrev pub invariant-loop-at : goal.invariant-loop-at
invariant-loop-at l = record {
  within : l.at ≤ length l.cells;
  adds : Adds l.initial.memory l.memory l.object 0 (map memory_cell (take l.at l.cells));
}

abbrev pub decreases-loop-at : goal.decreases-loop-at
decreases-loop-at l = length l.cells - l.at
