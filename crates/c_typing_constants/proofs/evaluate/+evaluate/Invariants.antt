use Rattle.std.proofs.Common.{◌≡◌, drop}
use Rattle.c_typed_tree.specs.model.View.{exprs_view}
use Rattle.c_typing_constants.specs.model.Evaluations.{start, last_from}
use Rattle.c_typing_constants.proofs.evaluate.+evaluate.Given as goal

abbrev pub invariant-evaluate_all-loop-operand : goal.invariant-evaluate_all-loop-operand
invariant-evaluate_all-loop-operand l =
    last_from start (exprs_view l.list) ≡ last_from l.all (exprs_view (drop l.operand-index l.list))
