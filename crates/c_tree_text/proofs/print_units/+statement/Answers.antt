-- What each form puts, from what its calls put.
use Rattle.std.proofs.Common.{sym, ap, ◌∙◌, refl}
use Rattle.c_tree.specs.Nodes.{two_nodes, more, nodes_of, expr_node, stmt_node, part_of_for, first_nodes, append_nodes}
use Rattle.c_tree.specs.model.Parts.{section_node, children_of, else_nodes}
use Rattle.c_tree.specs.model.Open.{opens}
use Rattle.c_tree.proofs.Rows.{stmt_row-hidden, section_row-hidden, if-children}
use Rattle.c_tree_text.proofs.Lines.{one_more, nodes_are, first_and, two, four, two_lists}
use Rattle.c_tree_text.proofs.print_units.+statement.Goals as goal

pub put_parts-returns-in-Block : goal.put_parts-returns-in-Block
unfolding opens
put_parts-returns-in-Block t c =
    nodes_are _ _ _ _ _ _ (ap (nodes_of stmt_node) c.as_slice.ensures ∙ sym (stmt_row-hidden _) ∙ sym (ap (λ e. children_of (stmt_node e)) c.in-Block.is)) c.put_stmts.ensures

pub put_parts-returns-in_ok-put_stmt-in-If : goal.put_parts-returns-in_ok-put_stmt-in-If
unfolding opens
put_parts-returns-in_ok-put_stmt-in-If t c =
    first_and _ _ _ _ _ (expr_node c.deref.result.now) (more (stmt_node c.deref-in-If.result.now) (else_nodes c.in-If.otherwise)) _
    (ap (λ s. more (expr_node c.deref.result.now) (more (stmt_node s) (else_nodes c.in-If.otherwise))) c.deref-in-If.ensures ∙ ap (λ e. more (expr_node e) (more (stmt_node c.in-If.then) (else_nodes c.in-If.otherwise))) c.deref.ensures ∙ sym (if-children c.in-If.condition c.in-If.then c.in-If.otherwise) ∙ sym (ap (λ e. children_of (stmt_node e)) c.in-If.is)) c.in_ok-put_expr-in-If.ensures (first_and _ _ _ _ _ _ _ _ refl c.in_ok-put_stmt-in-If.ensures c.put_otherwise.ensures)

pub put_parts-returns-in_ok-put_expr-in-While : goal.put_parts-returns-in_ok-put_expr-in-While
unfolding opens
put_parts-returns-in_ok-put_expr-in-While t c =
    two _ _ _ _ _ _ _ _ (ap (λ s. two_nodes (expr_node c.deref-in-While.result.now) (stmt_node s)) c.deref-in-While-2.ensures ∙ ap (λ e. two_nodes (expr_node e) (stmt_node c.in-While.body)) c.deref-in-While.ensures ∙ sym (ap (λ e. children_of (stmt_node e)) c.in-While.is)) c.in_ok-put_expr-in-While.ensures c.put_stmt-in-While.ensures

pub put_parts-returns-in_ok-put_expr-in-Switch : goal.put_parts-returns-in_ok-put_expr-in-Switch
unfolding opens
put_parts-returns-in_ok-put_expr-in-Switch t c =
    first_and _ _ _ _ _ _ _ _ (ap (λ e. more (expr_node e) (nodes_of section_node c.as_slice-in-Switch.result.now)) c.deref-in-Switch.ensures
    ∙ ap (more (expr_node c.in-Switch.operand)) (ap (nodes_of section_node) c.as_slice-in-Switch.ensures ∙ sym (section_row-hidden _)) ∙ sym (ap (λ e. children_of (stmt_node e)) c.in-Switch.is)) c.in_ok-put_expr-in-Switch.ensures c.put_sections.ensures

pub put_parts-returns-in_ok-put_part_of_for-in-For-2 : goal.put_parts-returns-in_ok-put_part_of_for-in-For-2
unfolding opens
put_parts-returns-in_ok-put_part_of_for-in-For-2 t c =
    four _ _ _ _ _ _ _ (first_nodes c.deref-in-For.result.now) (part_of_for c.in-For.condition) (part_of_for c.in-For.step) _ _
    (ap (λ s. append_nodes (first_nodes c.deref-in-For.result.now) (more (part_of_for c.in-For.condition) (two_nodes (part_of_for c.in-For.step) (stmt_node s)))) c.deref-in-For-2.ensures
    ∙ ap (λ f. append_nodes (first_nodes f) (more (part_of_for c.in-For.condition) (two_nodes (part_of_for c.in-For.step) (stmt_node c.in-For.body)))) c.deref-in-For.ensures ∙ sym (ap (λ e. children_of (stmt_node e)) c.in-For.is)) c.in_ok-put_first-in-For.ensures c.in_ok-put_part_of_for-in-For.ensures c.in_ok-put_part_of_for-in-For-2.ensures c.put_stmt-in-For.ensures

pub put_stmts-loop-stmt-preserved : goal.put_stmts-loop-stmt-preserved
unfolding opens
put_stmts-loop-stmt-preserved t c =
    one_more _ _ _ _ stmt_node _ _ _ c.loop-stmt-test.true c.stmt-item.is c.loop-stmt.invariant c.in_ok-put_stmt.ensures

pub put_sections-loop-section-preserved : goal.put_sections-loop-section-preserved
unfolding opens
put_sections-loop-section-preserved t c =
    (c.loop-section.invariant.0, one_more _ _ _ _ section_node _ _ _ c.loop-section-test.true c.section-item.is c.loop-section.invariant.1 (two_lists _ _ _ _ _ _ _ _ _ _ c.in_ok-put_label.ensures c.in_ok-put_stmts.ensures (c.deref.ensures.value ∙ c.loop-section.invariant.0) (c.deref-in-loop-section.ensures.value ∙ c.loop-section.invariant.0) (ap (nodes_of stmt_node) c.as_slice.ensures)))
