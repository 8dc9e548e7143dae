use Rattle.std.proofs.Common.{◌≡◌, replicate}
use Rattle.mem_model.specs.Cells.{with_row}
use Rattle.mem_model.specs.declared.value.Cell.TheVariants.{Empty}
use Rattle.mem_model.proofs.rows.wipe.Given as goal

abbrev pub invariant-loop-k : goal.invariant-loop-k
invariant-loop-k l = l.cells ≡ with_row l.initial.cells l.at (replicate l.k Empty)
