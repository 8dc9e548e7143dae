use Rattle.std.proofs.Common.{◌≡◌, ◌++◌, take}
use Rattle.c_tree.specs.Nodes.{nodes_text, nodes_of, local_node}
use Rattle.c_tree_text.proofs.print_units.put_locals.Given as goal

abbrev pub invariant-loop-local : goal.invariant-loop-local
invariant-loop-local l = l.out.items ≡ l.initial.out.items ++ nodes_text l.indent (nodes_of local_node (take l.local-index l.list))
