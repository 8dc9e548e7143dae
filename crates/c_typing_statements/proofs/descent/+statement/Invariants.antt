use Rattle.std.proofs.Common.{◌≡◌, [], Some, drop}
use Rattle.c_typing_state.specs.Checks.{walk}
use Rattle.c_typing_statements.specs.Statements as spec
use Rattle.c_typing_statements.specs.model.Lists as model
use Rattle.c_typing_statements.proofs.descent.+statement.Given as goal

abbrev pub invariant-statements-loop-s : goal.invariant-statements-loop-s
invariant-statements-loop-s l =
    walk (spec.statement l.of l.jumps) l.list (Some []) (l.fn.locals, (l.fn.env, l.fn.notes))
    ≡ walk (spec.statement l.of l.jumps) (drop l.s-index l.list) l.found (l.locals, (l.env, l.notes))

abbrev pub invariant-sections-loop-x : goal.invariant-sections-loop-x
invariant-sections-loop-x l =
    walk (model.section l.of l.jumps l.ty) l.list (Some []) (l.fn.labels, (l.fn.locals, (l.fn.env, l.fn.notes)))
    ≡ walk (model.section l.of l.jumps l.ty) (drop l.x-index l.list) l.found (l.labels, (l.locals, (l.env, l.notes)))
