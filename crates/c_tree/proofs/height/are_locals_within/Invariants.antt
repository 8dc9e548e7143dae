use Rattle.std.proofs.Common.{◌≤◌, take}
use Rattle.c_tree.specs.Nodes.{nodes_height, nodes_of, local_node}
use Rattle.c_tree.proofs.height.are_locals_within.Given as goal

abbrev pub invariant-loop-local : goal.invariant-loop-local
invariant-loop-local l = nodes_height (nodes_of local_node (take l.local-index l.list)) ≤ l.most
