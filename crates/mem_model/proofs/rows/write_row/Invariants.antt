use Rattle.std.proofs.Common.{◌≡◌, take}
use Rattle.mem_model.specs.Cells.{with_row}
use Rattle.mem_model.proofs.rows.write_row.Given as goal

abbrev pub invariant-loop-k : goal.invariant-loop-k
invariant-loop-k l = l.cells ≡ with_row l.initial.cells l.at (take l.k l.row)
