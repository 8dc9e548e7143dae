use Rattle.std.proofs.Common.{◌≡◌, length, [], Some}
use Rattle.std.specs.Vec.Iter.{into_iter_items}
use Rattle.c_types.specs.Units as spec
use Rattle.c_types.proofs.units.whole_functions.Given as goal

abbrev pub invariant-loop-part : goal.invariant-loop-part
invariant-loop-part l = spec.append_functions (Some []) l.fn.places.items ≡ spec.append_functions l.found (into_iter_items l.rest)

abbrev pub decreases-loop-part : goal.decreases-loop-part
decreases-loop-part l = length (into_iter_items l.rest)
