use Rattle.std.proofs.Common.{◌≡◌, length}
use Rattle.std.specs.Vec.Iter.{into_iter_items}
use Rattle.c_types.specs.Units as spec
use Rattle.c_types.proofs.units.put_trees.Given as goal

abbrev pub invariant-loop-one : goal.invariant-loop-one
invariant-loop-one l = spec.with_trees l.fn.functions l.fn.places.items ≡ spec.with_trees (into_iter_items l.rest) l.places.items

abbrev pub decreases-loop-one : goal.decreases-loop-one
decreases-loop-one l = length (into_iter_items l.rest)
