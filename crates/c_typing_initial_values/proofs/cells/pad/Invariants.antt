use Rattle.std.proofs.Common.{◌≡◌, ◌++◌}
use Rattle.c_typing_initial_values.specs.Cells.{zero_cells}
use Rattle.c_typing_initial_values.proofs.cells.pad.Given as goal

abbrev pub invariant-loop-zero : goal.invariant-loop-zero
invariant-loop-zero l = l.cells.items ≡ l.fn.cells.items ++ zero_cells l._zero
