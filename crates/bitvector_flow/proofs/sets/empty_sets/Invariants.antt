-- So many empty sets are made.
use Rattle.std.proofs.Common.{◌≡◌, false, replicate}
use Rattle.bitvector_flow.proofs.sets.empty_sets.Given as goal

abbrev pub invariant-loop-made : goal.invariant-loop-made
invariant-loop-made l = l.sets.items ≡ replicate l.made (replicate l.bound false)
