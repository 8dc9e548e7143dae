use Rattle.std.proofs.Common.{sym, ap, ◌∙◌}
use Rattle.c_tree.specs.Nodes.{expr_node, type_node, nodes_of, more}
use Rattle.c_tree.specs.model.Parts.{constant_node, member_node, parameter_node, children_of}
use Rattle.c_tree.specs.model.Open.{opens}
use Rattle.c_tree.proofs.Rows.{expr_row-hidden, parameter_row-hidden}
use Rattle.c_tree.proofs.Heights.{one_more, too_high, height-is, rest-is}
use Rattle.c_tree.proofs.height.+ast.Goals as goal

pub are_exprs_within-loop-e-preserved : goal.are_exprs_within-loop-e-preserved
are_exprs_within-loop-e-preserved t c =
    one_more expr_node _ _ _ _ _ c.loop-e-test.true c.e-item.is c.is_expr_within.ensures c.if-not-is_expr_within.false c.loop-e.invariant

pub are_exprs_within-returns-then-not-is_expr_within : goal.are_exprs_within-returns-then-not-is_expr_within
are_exprs_within-returns-then-not-is_expr_within t c =
    too_high expr_node _ _ _ _ _ c.loop-e-test.true c.e-item.is c.is_expr_within.ensures c.if-not-is_expr_within.true

pub are_constants_within-loop-constant-preserved : goal.are_constants_within-loop-constant-preserved
are_constants_within-loop-constant-preserved t c =
    one_more constant_node _ _ _ _ _ c.loop-constant-test.true c.constant-item.is c.is_constant_within.ensures c.if-not-is_constant_within.false c.loop-constant.invariant

pub are_constants_within-returns-then-not-is_constant_within : goal.are_constants_within-returns-then-not-is_constant_within
are_constants_within-returns-then-not-is_constant_within t c =
    too_high constant_node _ _ _ _ _ c.loop-constant-test.true c.constant-item.is c.is_constant_within.ensures c.if-not-is_constant_within.true

pub are_members_within-loop-member-preserved : goal.are_members_within-loop-member-preserved
are_members_within-loop-member-preserved t c =
    one_more member_node _ _ _ _ _ c.loop-member-test.true c.member-item.is c.is_member_within.ensures c.if-not-is_member_within.false c.loop-member.invariant

pub are_members_within-returns-then-not-is_member_within : goal.are_members_within-returns-then-not-is_member_within
are_members_within-returns-then-not-is_member_within t c =
    too_high member_node _ _ _ _ _ c.loop-member-test.true c.member-item.is c.is_member_within.ensures c.if-not-is_member_within.true

pub are_parameters_within-loop-parameter-preserved : goal.are_parameters_within-loop-parameter-preserved
are_parameters_within-loop-parameter-preserved t c =
    one_more parameter_node _ _ _ _ _ c.loop-parameter-test.true c.parameter-item.is c.is_parameter_within.ensures c.if-not-is_parameter_within.false c.loop-parameter.invariant

pub are_parameters_within-returns-then-not-is_parameter_within : goal.are_parameters_within-returns-then-not-is_parameter_within
are_parameters_within-returns-then-not-is_parameter_within t c =
    too_high parameter_node _ _ _ _ _ c.loop-parameter-test.true c.parameter-item.is c.is_parameter_within.ensures c.if-not-is_parameter_within.true

pub are_operands_within-returns-in-Call : goal.are_operands_within-returns-in-Call
unfolding opens
are_operands_within-returns-in-Call t c =
    height-is _ _ _ _ (ap (nodes_of expr_node) c.as_slice.ensures ∙ sym (expr_row-hidden _) ∙ sym (ap (λ e. children_of (expr_node e)) c.in-Call.is)) c.are_exprs_within.ensures

pub are_operands_within-returns-in-Comma : goal.are_operands_within-returns-in-Comma
unfolding opens
are_operands_within-returns-in-Comma t c =
    height-is _ _ _ _ (ap (nodes_of expr_node) c.as_slice-in-Comma.ensures ∙ sym (expr_row-hidden _) ∙ sym (ap (λ e. children_of (expr_node e)) c.in-Comma.is)) c.are_exprs_within-in-Comma.ensures

pub are_type_parts_within-returns-then-is_type_within-2 : goal.are_type_parts_within-returns-then-is_type_within-2
unfolding opens
are_type_parts_within-returns-then-is_type_within-2 t c =
    rest-is _ (type_node c.deref-in-Takes.result.now) _ _ _ (ap (λ y. more (type_node y) (nodes_of parameter_node c.as_slice-then-is_type_within-2.result.now)) c.deref-in-Takes.ensures
    ∙ ap (λ ns. more (type_node c.in-Takes.returned) ns) (ap (nodes_of parameter_node) c.as_slice-then-is_type_within-2.ensures ∙ sym (parameter_row-hidden _)) ∙ sym (ap (λ y. children_of (type_node y)) c.in-Takes.is))
    (c.is_type_within-in-Takes.ensures.0 c.if-is_type_within-2.true) c.are_parameters_within.ensures
