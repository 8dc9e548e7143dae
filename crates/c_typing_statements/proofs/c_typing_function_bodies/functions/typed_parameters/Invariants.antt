use Rattle.std.proofs.Common.{◌≡◌, drop, true}
use Rattle.std.specs.Vec.Iter.{into_iter_items}
use Rattle.c_typing_statements.specs.c_typing_function_bodies.Functions as spec
use Rattle.c_typing_statements.proofs.c_typing_function_bodies.functions.typed_parameters.Given as goal

abbrev pub invariant-loop-p : goal.invariant-loop-p
invariant-loop-p l =
    spec.typed_parameters l.list l.fn.types true (l.fn.locals, (l.fn.env, l.fn.notes))
    ≡ spec.typed_parameters (drop l.p-index l.list) (into_iter_items l.rest) l.sound (l.locals, (l.env, l.notes))
