use Rattle.std.proofs.Common.{◌≡◌, take, map}
use Rattle.mem_model.specs.Cells.{with_row}
use Rattle.mem_model.specs.Memory.{byte_of}
use Rattle.mem_model.proofs.rows.write_bytes.Given as goal

abbrev pub invariant-loop-k : goal.invariant-loop-k
invariant-loop-k l = l.cells ≡ with_row l.initial.cells l.at (map byte_of (take l.k l.values))
