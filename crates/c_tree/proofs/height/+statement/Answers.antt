use Rattle.std.proofs.Common.{sym, ap, ◌∙◌}
use Rattle.c_tree.specs.Nodes.{stmt_node, expr_node, nodes_of, part_of_for, first_nodes, more, two_nodes, append_nodes}
use Rattle.c_tree.specs.model.Parts.{section_node, children_of}
use Rattle.c_tree.specs.model.Open.{opens}
use Rattle.c_tree.proofs.Rows.{stmt_row-hidden, section_row-hidden}
use Rattle.c_tree.proofs.Heights.{one_more, too_high, height-is, rest-is, last-is}
use Rattle.c_tree.proofs.height.+statement.Goals as goal

pub are_stmts_within-loop-stmt-preserved : goal.are_stmts_within-loop-stmt-preserved
are_stmts_within-loop-stmt-preserved t c =
    one_more stmt_node _ _ _ _ _ c.loop-stmt-test.true c.stmt-item.is c.is_stmt_within.ensures c.if-not-is_stmt_within.false c.loop-stmt.invariant

pub are_stmts_within-returns-then-not-is_stmt_within : goal.are_stmts_within-returns-then-not-is_stmt_within
are_stmts_within-returns-then-not-is_stmt_within t c =
    too_high stmt_node _ _ _ _ _ c.loop-stmt-test.true c.stmt-item.is c.is_stmt_within.ensures c.if-not-is_stmt_within.true

pub are_sections_within-loop-section-preserved : goal.are_sections_within-loop-section-preserved
are_sections_within-loop-section-preserved t c =
    one_more section_node _ _ _ _ _ c.loop-section-test.true c.section-item.is c.is_section_within.ensures c.if-not-is_section_within.false c.loop-section.invariant

pub are_sections_within-returns-then-not-is_section_within : goal.are_sections_within-returns-then-not-is_section_within
are_sections_within-returns-then-not-is_section_within t c =
    too_high section_node _ _ _ _ _ c.loop-section-test.true c.section-item.is c.is_section_within.ensures c.if-not-is_section_within.true

pub are_parts_within-returns-in-Block : goal.are_parts_within-returns-in-Block
unfolding opens
are_parts_within-returns-in-Block t c =
    height-is _ _ _ _ (ap (nodes_of stmt_node) c.as_slice.ensures ∙ sym (stmt_row-hidden _) ∙ sym (ap (λ e. children_of (stmt_node e)) c.in-Block.is)) c.are_stmts_within.ensures

pub are_parts_within-returns-then-is_expr_within-3 : goal.are_parts_within-returns-then-is_expr_within-3
unfolding opens
are_parts_within-returns-then-is_expr_within-3 t c =
    rest-is _ (expr_node c.deref-in-Switch.result.now) _ _ _
    (ap (λ e. more (expr_node e) (nodes_of section_node c.as_slice-then-is_expr_within-3.result.now)) c.deref-in-Switch.ensures
    ∙ ap (more (expr_node c.in-Switch.operand)) (ap (nodes_of section_node) c.as_slice-then-is_expr_within-3.ensures ∙ sym (section_row-hidden _)) ∙ sym (ap (λ e. children_of (stmt_node e)) c.in-Switch.is))
    (c.is_expr_within-in-Switch.ensures.0 c.if-is_expr_within-3.true) c.are_sections_within.ensures

pub are_parts_within-returns-then-is_head_within : goal.are_parts_within-returns-then-is_head_within
unfolding opens
are_parts_within-returns-then-is_head_within t c =
    last-is _ (first_nodes c.deref-in-For.result.now) (part_of_for c.in-For.condition) (part_of_for c.in-For.step) (stmt_node c.deref-then-is_head_within.result.now) _ _
    (ap (λ s. append_nodes (first_nodes c.deref-in-For.result.now) (more (part_of_for c.in-For.condition) (two_nodes (part_of_for c.in-For.step) (stmt_node s)))) c.deref-then-is_head_within.ensures
    ∙ ap (λ f. append_nodes (first_nodes f) (more (part_of_for c.in-For.condition) (two_nodes (part_of_for c.in-For.step) (stmt_node c.in-For.body)))) c.deref-in-For.ensures ∙ sym (ap (λ e. children_of (stmt_node e)) c.in-For.is))
    (c.is_head_within.ensures.0 c.if-is_head_within.true) c.is_stmt_within-then-is_head_within.ensures
