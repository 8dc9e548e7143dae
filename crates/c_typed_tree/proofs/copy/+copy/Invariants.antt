-- What was copied so far is the front of the list.
use Rattle.std.proofs.Common.{◌≡◌, take}
use Rattle.c_typed_tree.proofs.copy.+copy.Given as goal

abbrev pub invariant-copy_exprs-loop-e : goal.invariant-copy_exprs-loop-e
invariant-copy_exprs-loop-e l = l.copies ≡ take l.e-index l.e-items
