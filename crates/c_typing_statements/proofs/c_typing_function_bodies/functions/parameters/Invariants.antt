use Rattle.std.proofs.Common.{◌≡◌, drop, true}
use Rattle.c_typing_statements.specs.c_typing_function_bodies.Functions as spec
use Rattle.c_typing_statements.proofs.c_typing_function_bodies.functions.parameters.Given as goal

abbrev pub invariant-loop-p : goal.invariant-loop-p
invariant-loop-p l =
    spec.parameters l.list true (l.fn.locals, (l.fn.env, l.fn.notes))
    ≡ spec.parameters (drop l.p-index l.list) l.sound (l.locals, (l.env, l.notes))
