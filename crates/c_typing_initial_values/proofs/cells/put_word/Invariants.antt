use Rattle.std.proofs.Common.{◌≡◌, ◌++◌, ◌-◌}
use Rattle.c_typing_initial_values.specs.Cells.{word_cells}
use Rattle.c_typing_initial_values.proofs.cells.put_word.Given as goal

abbrev pub invariant-loop-byte : goal.invariant-loop-byte
invariant-loop-byte l = l.fn.cells.items ++ word_cells l.count l.word ≡ l.cells.items ++ word_cells (l.count - l._byte) l.rest
