use Rattle.std.proofs.Common.{◌≡◌, [], Some, drop}
use Rattle.c_typing_state.specs.Checks.{walk}
use Rattle.c_typing_expressions.specs.Expressions as spec
use Rattle.c_typing_expressions.specs.model.Parts as model
use Rattle.c_typing_expressions.proofs.expressions.+expression.Given as goal

abbrev pub invariant-judges-loop-e : goal.invariant-judges-loop-e
invariant-judges-loop-e l = walk spec.judge l.list (Some []) (l.fn.env, l.fn.notes) ≡ walk spec.judge (drop l.e-index l.list) l.found (l.env, l.notes)

abbrev pub invariant-parameters-loop-p : goal.invariant-parameters-loop-p
invariant-parameters-loop-p l = walk model.one_parameter l.list (Some []) (l.fn.env, l.fn.notes) ≡ walk model.one_parameter (drop l.p-index l.list) l.found (l.env, l.notes)
