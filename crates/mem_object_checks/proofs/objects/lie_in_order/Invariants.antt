use Rattle.std.proofs.Common.{drop}
use Rattle.mem_objects.specs.Layout.{ObjectsLieFrom}
use Rattle.mem_object_checks.proofs.objects.lie_in_order.Given as goal

abbrev pub invariant-loop-object : goal.invariant-loop-object
invariant-loop-object l = ObjectsLieFrom l.end (drop l.object-index l.globals) → ObjectsLieFrom 0 l.globals
