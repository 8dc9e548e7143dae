-- What the forms with a list weigh, and one turn of the loops over lists.
use Rattle.std.proofs.Common.{◌+◌, ◌-◌, ◌^◌, min, ap, ◌∙◌}
use Rattle.c_typed_tree.specs.View.{expr_view, stmt_view}
use Rattle.c_typed_tree.specs.model.View.{stmts_view}
use Rattle.c_typed_tree.specs.Weight.{expr_weight, label_weight, stmt_weight, stmts_weight, sections_weight}
use Rattle.c_typed_tree.specs.model.Lists.{sections_view}
use Rattle.c_typing_weight.proofs.Weights.{one_more, stmts_weight_end, sections_weight_end, block_is, switch_is, least_sum}
use Rattle.c_typing_weight.proofs.statements.+weight.Goals as goal

pub stmt_weight-returns-in-Block : goal.stmt_weight-returns-in-Block
stmt_weight-returns-in-Block t c = block_is _ _ _ _ _ _ c.in-Block.is c.stmts_weight.ensures c.one_and.ensures

pub stmt_weight-returns-in-Switch : goal.stmt_weight-returns-in-Switch
stmt_weight-returns-in-Switch t c =
    switch_is _ _ _ _ _ _ _ _ c.in-Switch.is
    (c.expr_weight-in-Switch.ensures ∙ ap (λ x. min (expr_weight c.args.structs.now (expr_view x)) (2 ^ 64 - 1)) c.deref-in-Switch.ensures)
    c.sections_weight.ensures c.one_and-in-Switch.ensures

pub stmts_weight-loop-statement-preserved : goal.stmts_weight-loop-statement-preserved
stmts_weight-loop-statement-preserved t c =
    one_more (λ xs. stmts_weight c.args.structs.now (stmts_view xs)) (λ x. stmt_weight c.args.structs.now (stmt_view x)) (stmts_weight_end c.args.structs.now) _ _ _ _ _ _ _ c.loop-statement-test.true c.statement-item.is c.loop-statement.invariant c.stmt_weight.ensures c.saturating_add-total.ensures

pub sections_weight-loop-section-preserved : goal.sections_weight-loop-section-preserved
sections_weight-loop-section-preserved t c =
    one_more (λ xs. sections_weight c.args.structs.now (sections_view xs)) (λ x. label_weight x.label + stmts_weight c.args.structs.now (stmts_view x.statements)) (sections_weight_end c.args.structs.now) _ _ _ _ _ _ _ c.loop-section-test.true c.section-item.is c.loop-section.invariant
    (least_sum _ _ _ _ _ _ c.label_weight.ensures c.stmts_weight-body.ensures c.saturating_add.ensures) c.saturating_add-total.ensures
