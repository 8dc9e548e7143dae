use Rattle.std.proofs.Common.{◌≡◌, length}
use Rattle.std.specs.Vec.Iter.{into_iter_items}
use Rattle.c_typing_globals.specs.Globals as spec
use Rattle.c_typing_globals.proofs.globals.add_objects.Given as goal

abbrev pub invariant-loop-object : goal.invariant-loop-object
invariant-loop-object l = spec.with_objects l.structs l.fn.objects l.fn.so_far ≡ spec.with_objects l.structs (into_iter_items l.rest) l.so_far

abbrev pub decreases-loop-object : goal.decreases-loop-object
decreases-loop-object l = length (into_iter_items l.rest)
