-- What the forms with a list weigh, and one turn of the loop over a list.
use Rattle.c_typed_tree.specs.View.{expr_view}
use Rattle.c_typed_tree.specs.model.View.{exprs_view}
use Rattle.c_typed_tree.specs.Weight.{expr_weight, exprs_weight}
use Rattle.c_typing_weight.proofs.Weights.{one_more, exprs_weight_end, call_is, comma_is}
use Rattle.c_typing_weight.proofs.expressions.+weight.Goals as goal

pub expr_weight-returns-in-Call : goal.expr_weight-returns-in-Call
expr_weight-returns-in-Call t c = call_is _ _ _ _ _ _ _ _ c.in-Call.is c.exprs_weight.ensures c.one_and.ensures

pub expr_weight-returns-in-Comma : goal.expr_weight-returns-in-Comma
expr_weight-returns-in-Comma t c = comma_is _ _ _ _ _ _ _ _ _ c.in-Comma.is c.exprs_weight-in-Comma.ensures c.len.ensures c.saturating_sub.ensures c.saturating_add.ensures

pub exprs_weight-loop-e-preserved : goal.exprs_weight-loop-e-preserved
exprs_weight-loop-e-preserved t c =
    one_more (λ xs. exprs_weight c.args.structs.now (exprs_view xs)) (λ x. expr_weight c.args.structs.now (expr_view x)) (exprs_weight_end c.args.structs.now) _ _ _ _ _ _ _ c.loop-e-test.true c.e-item.is c.loop-e.invariant c.expr_weight.ensures c.saturating_add-total.ensures
