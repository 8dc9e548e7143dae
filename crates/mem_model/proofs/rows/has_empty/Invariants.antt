use Rattle.std.proofs.Common.{◌≡◌, take, drop, false}
use Rattle.std.specs.List.{list_any}
use Rattle.mem_model.specs.Cells.{is_empty}
use Rattle.mem_model.proofs.rows.has_empty.Given as goal

abbrev pub invariant-loop-k : goal.invariant-loop-k
invariant-loop-k l = list_any is_empty (take l.k (drop l.at l.cells)) ≡ false
