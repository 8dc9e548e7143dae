use Rattle.std.proofs.Common.{◌≡◌, take, drop}
use Rattle.mem_model.proofs.rows.is_row.Given as goal

abbrev pub invariant-loop-k : goal.invariant-loop-k
invariant-loop-k l = take l.k (drop l.at l.cells) ≡ take l.k l.row
