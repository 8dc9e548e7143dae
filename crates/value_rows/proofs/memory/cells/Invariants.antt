use Rattle.std.proofs.Common.{All}
use Rattle.mem_model.specs.Memory.{IsByte}
use Rattle.value_rows.proofs.memory.cells.Given as goal

abbrev pub invariant-loop-byte : goal.invariant-loop-byte
invariant-loop-byte l = All IsByte l.cells.items
