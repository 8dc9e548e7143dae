-- What each form puts, from what its calls put.
use Rattle.std.proofs.Common.{◌++◌, sym, ap, ◌∙◌}
use Rattle.std.specs.Prelude.{codes}
use Rattle.c_tree.specs.Nodes.{nodes_of, expr_node, type_node}
use Rattle.c_tree.specs.model.Parts.{constant_node, member_node, parameter_node, children_of}
use Rattle.c_tree.specs.model.Open.{opens}
use Rattle.c_tree.proofs.Rows.{expr_row-hidden, parameter_row-hidden}
use Rattle.c_tree_text.proofs.Lines.{one_more, under, one_under, nodes_are, first_and, two, three, both_is, more_is}
use Rattle.c_tree_text.proofs.print.+ast.Goals as goal

pub put_operands-returns-in-Call : goal.put_operands-returns-in-Call
unfolding opens
put_operands-returns-in-Call t c =
    nodes_are _ _ _ _ _ _ (ap (nodes_of expr_node) c.as_slice.ensures ∙ sym (expr_row-hidden _) ∙ sym (ap (λ e. children_of (expr_node e)) c.in-Call.is)) c.put_exprs.ensures

pub put_operands-returns-in-Comma : goal.put_operands-returns-in-Comma
unfolding opens
put_operands-returns-in-Comma t c =
    nodes_are _ _ _ _ _ _ (ap (nodes_of expr_node) c.as_slice-in-Comma.ensures ∙ sym (expr_row-hidden _) ∙ sym (ap (λ e. children_of (expr_node e)) c.in-Comma.is)) c.put_exprs-in-Comma.ensures

pub put_operands-returns-in_ok-put_expr-in-Binary : goal.put_operands-returns-in_ok-put_expr-in-Binary
unfolding opens
put_operands-returns-in_ok-put_expr-in-Binary t c =
    two _ _ _ _ _ _ _ _ (both_is expr_node expr_node _ _ _ _ c.deref-in-Binary.ensures c.deref-in-Binary-2.ensures ∙ sym (ap (λ e. children_of (expr_node e)) c.in-Binary.is)) c.in_ok-put_expr-in-Binary.ensures c.put_expr-in-Binary-2.ensures

pub put_operands-returns-in_ok-put_expr-in-Assign : goal.put_operands-returns-in_ok-put_expr-in-Assign
unfolding opens
put_operands-returns-in_ok-put_expr-in-Assign t c =
    two _ _ _ _ _ _ _ _ (both_is expr_node expr_node _ _ _ _ c.deref-in-Assign.ensures c.deref-in-Assign-2.ensures ∙ sym (ap (λ e. children_of (expr_node e)) c.in-Assign.is)) c.in_ok-put_expr-in-Assign.ensures c.put_expr-in-Assign-2.ensures

pub put_operands-returns-in_ok-put_expr-in-Index : goal.put_operands-returns-in_ok-put_expr-in-Index
unfolding opens
put_operands-returns-in_ok-put_expr-in-Index t c =
    two _ _ _ _ _ _ _ _ (both_is expr_node expr_node _ _ _ _ c.deref-in-Index.ensures c.deref-in-Index-2.ensures ∙ sym (ap (λ e. children_of (expr_node e)) c.in-Index.is)) c.in_ok-put_expr-in-Index.ensures c.put_expr-in-Index-2.ensures

pub put_operands-returns-in_ok-put_expr-in-Conditional-2 : goal.put_operands-returns-in_ok-put_expr-in-Conditional-2
unfolding opens
put_operands-returns-in_ok-put_expr-in-Conditional-2 t c =
    three _ _ _ _ _ _ _ _ _ _ (more_is expr_node _ _ _ _ c.deref-in-Conditional.ensures (both_is expr_node expr_node _ _ _ _ c.deref-in-Conditional-2.ensures c.deref-in-Conditional-3.ensures) ∙ sym (ap (λ e. children_of (expr_node e)) c.in-Conditional.is)) c.in_ok-put_expr-in-Conditional.ensures c.in_ok-put_expr-in-Conditional-2.ensures c.put_expr-in-Conditional-3.ensures

pub put_operands-returns-in_ok-put_type-in-Cast : goal.put_operands-returns-in_ok-put_type-in-Cast
unfolding opens
put_operands-returns-in_ok-put_type-in-Cast t c =
    two _ _ _ _ _ _ _ _ (both_is (λ x. type_node x.ty) expr_node _ _ _ _ c.deref-in-Cast.ensures c.deref-in-Cast-2.ensures ∙ sym (ap (λ e. children_of (expr_node e)) c.in-Cast.is)) c.in_ok-put_type-in-Cast.ensures c.put_expr-in-Cast.ensures

pub put_exprs-loop-e-preserved : goal.put_exprs-loop-e-preserved
unfolding opens
put_exprs-loop-e-preserved t c =
    one_more _ _ _ _ expr_node _ _ _ c.loop-e-test.true c.e-item.is c.loop-e.invariant c.in_ok-put_expr.ensures

pub put_members-loop-member-preserved : goal.put_members-loop-member-preserved
unfolding opens
put_members-loop-member-preserved t c =
    (c.loop-member.invariant.0, one_more _ _ _ _ member_node _ _ _ c.loop-member-test.true c.member-item.is c.loop-member.invariant.1 (one_under _ _ _ _ _ _ _ _ c.in_ok-put_line.ensures (ap (λ n. codes "member " ++ n) c.as_slice.ensures) c.in_ok-put_type.ensures (c.deref.ensures.value ∙ c.loop-member.invariant.0)))

pub put_parameters-loop-parameter-preserved : goal.put_parameters-loop-parameter-preserved
unfolding opens
put_parameters-loop-parameter-preserved t c =
    (c.loop-parameter.invariant.0, one_more _ _ _ _ parameter_node _ _ _ c.loop-parameter-test.true c.parameter-item.is c.loop-parameter.invariant.1 (one_under _ _ _ _ _ _ _ _ c.in_ok-put_line.ensures (ap (λ n. codes "parameter " ++ n) c.name_or_dash.ensures) c.in_ok-put_type.ensures (c.deref.ensures.value ∙ c.loop-parameter.invariant.0)))

pub put_constants-loop-constant-preserved : goal.put_constants-loop-constant-preserved
unfolding opens
put_constants-loop-constant-preserved t c =
    (c.loop-constant.invariant.0, one_more _ _ _ _ constant_node _ _ _ c.loop-constant-test.true c.constant-item.is c.loop-constant.invariant.1 (under _ _ _ _ _ _ _ _ c.in_ok-put_line.ensures (ap (λ n. codes "constant " ++ n) c.as_slice.ensures) c.in_ok-put_value.ensures (c.deref.ensures.value ∙ c.loop-constant.invariant.0)))

pub put_type_parts-returns-in_ok-put_type-in-Takes : goal.put_type_parts-returns-in_ok-put_type-in-Takes
unfolding opens
put_type_parts-returns-in_ok-put_type-in-Takes t c =
    first_and _ _ _ _ _ _ _ _ (more_is type_node _ _ _ _ c.deref-in-Takes.ensures (ap (nodes_of parameter_node) c.as_slice-in-Takes.ensures ∙ sym (parameter_row-hidden _)) ∙ sym (ap (λ y. children_of (type_node y)) c.in-Takes.is)) c.in_ok-put_type-in-Takes.ensures c.put_parameters.ensures
