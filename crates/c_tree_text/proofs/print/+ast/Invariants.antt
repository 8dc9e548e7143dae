-- What a loop has put: the lines of the elements so far.
use Rattle.std.proofs.Common.{◌≡◌, ◌++◌, ◌∷◌, [], take}
use Rattle.c_tree.specs.Nodes.{nodes_text, nodes_of, expr_node}
use Rattle.c_tree.specs.model.Parts.{constant_node, member_node, parameter_node}
use Rattle.c_tree_text.proofs.print.+ast.Given as goal

abbrev pub invariant-put_exprs-loop-e : goal.invariant-put_exprs-loop-e
invariant-put_exprs-loop-e l = l.out.items ≡ l.initial.out.items ++ nodes_text l.indent (nodes_of expr_node (take l.e-index l.list))

abbrev pub invariant-put_constants-loop-constant : goal.invariant-put_constants-loop-constant
invariant-put_constants-loop-constant l = (l.under.items ≡ l.indent ++ 32 ∷ 32 ∷ []) × (l.out.items ≡ l.initial.out.items ++ nodes_text l.indent (nodes_of constant_node (take l.constant-index l.list)))

abbrev pub invariant-put_members-loop-member : goal.invariant-put_members-loop-member
invariant-put_members-loop-member l = (l.under.items ≡ l.indent ++ 32 ∷ 32 ∷ []) × (l.out.items ≡ l.initial.out.items ++ nodes_text l.indent (nodes_of member_node (take l.member-index l.list)))

abbrev pub invariant-put_parameters-loop-parameter : goal.invariant-put_parameters-loop-parameter
invariant-put_parameters-loop-parameter l = (l.under.items ≡ l.indent ++ 32 ∷ 32 ∷ []) × (l.out.items ≡ l.initial.out.items ++ nodes_text l.indent (nodes_of parameter_node (take l.parameter-index l.list)))
