-- So many empty sets are made.
use Rattle.std.proofs.Common.{◌≡◌, false, replicate}
use Rattle.alloc_rules.proofs.scan.empty_sets.Given as goal

abbrev pub invariant-loop-set : goal.invariant-loop-set
invariant-loop-set l = l.sets ≡ replicate l._set (replicate l.bound false)
