use Rattle.std.proofs.Common.{◌≤◌, take}
use Rattle.c_tree.specs.Nodes.{nodes_height, nodes_of, expr_node}
use Rattle.c_tree.specs.model.Parts.{constant_node, member_node, parameter_node}
use Rattle.c_tree.proofs.height.+ast.Given as goal

abbrev pub invariant-are_exprs_within-loop-e : goal.invariant-are_exprs_within-loop-e
invariant-are_exprs_within-loop-e l = nodes_height (nodes_of expr_node (take l.e-index l.list)) ≤ l.most

abbrev pub invariant-are_constants_within-loop-constant : goal.invariant-are_constants_within-loop-constant
invariant-are_constants_within-loop-constant l = nodes_height (nodes_of constant_node (take l.constant-index l.list)) ≤ l.most

abbrev pub invariant-are_members_within-loop-member : goal.invariant-are_members_within-loop-member
invariant-are_members_within-loop-member l = nodes_height (nodes_of member_node (take l.member-index l.list)) ≤ l.most

abbrev pub invariant-are_parameters_within-loop-parameter : goal.invariant-are_parameters_within-loop-parameter
invariant-are_parameters_within-loop-parameter l = nodes_height (nodes_of parameter_node (take l.parameter-index l.list)) ≤ l.most
