use Rattle.std.proofs.Common.{◌≢◌, ℕ, ◌<◌, ◌≤◌, slice_index_or}
use Rattle.mem_model.specs.declared.cells.Mark.TheVariants.{Unwritten, Home}
use Rattle.mem_model.proofs.cells.is_home_free.Given as goal

abbrev pub invariant-loop-k : goal.invariant-loop-k
invariant-loop-k l = (j : ℕ) → l.first ≤ j → j < l.k → j ≢ l.at → slice_index_or l.marks j Unwritten ≢ Home
