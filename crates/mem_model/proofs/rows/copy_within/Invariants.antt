use Rattle.std.proofs.Common.{◌≡◌, take, drop}
use Rattle.mem_model.specs.Cells.{with_row}
use Rattle.mem_model.proofs.rows.copy_within.Given as goal

abbrev pub invariant-loop-k : goal.invariant-loop-k
invariant-loop-k l = l.cells ≡ with_row l.initial.cells l.to (take l.k (drop l.from l.initial.cells))
