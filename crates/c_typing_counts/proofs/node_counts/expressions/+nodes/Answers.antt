-- The forms with a list, and one turn of the loop over a list.
use Rattle.c_typed_tree.specs.View.{expr_view}
use Rattle.c_typed_tree.specs.model.View.{exprs_view}
use Rattle.c_typed_tree.specs.Counts.{expr_nodes, exprs_nodes}
use Rattle.c_typing_counts.proofs.NodeCounts.Counts.{one_more, exprs_end, call_is, comma_is}
use Rattle.c_typing_counts.proofs.node_counts.expressions.+nodes.Goals as goal

pub expr_nodes-returns-in-Call : goal.expr_nodes-returns-in-Call
expr_nodes-returns-in-Call t c = call_is _ _ _ _ _ _ _ c.in-Call.is c.exprs_nodes.ensures c.one_and.ensures

pub expr_nodes-returns-in-Comma : goal.expr_nodes-returns-in-Comma
expr_nodes-returns-in-Comma t c = comma_is _ _ _ _ _ _ c.in-Comma.is c.exprs_nodes-in-Comma.ensures c.one_and-in-Comma.ensures

pub exprs_nodes-loop-e-preserved : goal.exprs_nodes-loop-e-preserved
exprs_nodes-loop-e-preserved t c =
    one_more (λ xs. exprs_nodes (exprs_view xs)) (λ x. expr_nodes (expr_view x)) exprs_end _ _ _ _ _ _ _ c.loop-e-test.true c.e-item.is c.loop-e.invariant c.expr_nodes.ensures c.saturating_add-total.ensures
