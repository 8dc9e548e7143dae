-- The forms with a list, and one turn of the loops over lists.
use Rattle.std.proofs.Common.{◌-◌, ◌^◌, min, ap, ◌∙◌}
use Rattle.c_typed_tree.specs.View.{expr_view, stmt_view}
use Rattle.c_typed_tree.specs.model.View.{stmts_view}
use Rattle.c_typed_tree.specs.Counts.{expr_nodes, stmt_nodes, stmts_nodes, sections_nodes}
use Rattle.c_typed_tree.specs.model.Lists.{sections_view}
use Rattle.c_typing_counts.proofs.NodeCounts.Counts.{one_more, stmts_end, sections_end, block_is, switch_is}
use Rattle.c_typing_counts.proofs.node_counts.statements.+nodes.Goals as goal

pub stmt_nodes-returns-in-Block : goal.stmt_nodes-returns-in-Block
stmt_nodes-returns-in-Block t c = block_is _ _ _ _ _ c.in-Block.is c.stmts_nodes.ensures c.one_and.ensures

pub stmt_nodes-returns-in-Switch : goal.stmt_nodes-returns-in-Switch
stmt_nodes-returns-in-Switch t c =
    switch_is _ _ _ _ _ _ _ c.in-Switch.is
    (c.expr_nodes-in-Switch.ensures ∙ ap (λ x. min (expr_nodes (expr_view x)) (2 ^ 64 - 1)) c.deref-in-Switch.ensures)
    c.sections_nodes.ensures c.one_and-in-Switch.ensures

pub stmts_nodes-loop-statement-preserved : goal.stmts_nodes-loop-statement-preserved
stmts_nodes-loop-statement-preserved t c =
    one_more (λ xs. stmts_nodes (stmts_view xs)) (λ x. stmt_nodes (stmt_view x)) stmts_end _ _ _ _ _ _ _ c.loop-statement-test.true c.statement-item.is c.loop-statement.invariant c.stmt_nodes.ensures c.saturating_add-total.ensures

pub sections_nodes-loop-section-preserved : goal.sections_nodes-loop-section-preserved
sections_nodes-loop-section-preserved t c =
    one_more (λ xs. sections_nodes (sections_view xs)) (λ x. stmts_nodes (stmts_view x.statements)) sections_end _ _ _ _ _ _ _ c.loop-section-test.true c.section-item.is c.loop-section.invariant
    c.stmts_nodes.ensures c.saturating_add-total.ensures
