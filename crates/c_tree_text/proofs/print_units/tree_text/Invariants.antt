use Rattle.std.proofs.Common.{◌≡◌, [], take}
use Rattle.c_tree.specs.Nodes.{nodes_text, nodes_of, external_node}
use Rattle.c_tree_text.proofs.print_units.tree_text.Given as goal

abbrev pub invariant-loop-external : goal.invariant-loop-external
invariant-loop-external l = l.out.items ≡ nodes_text [] (nodes_of external_node (take l.external-index l.external-items))
