use Rattle.std.proofs.Common.{◌≤◌, take}
use Rattle.c_tree.specs.Nodes.{nodes_height, nodes_of, init_node}
use Rattle.c_tree.proofs.height.+init.Given as goal

abbrev pub invariant-are_inits_within-loop-init : goal.invariant-are_inits_within-loop-init
invariant-are_inits_within-loop-init l = nodes_height (nodes_of init_node (take l.init-index l.list)) ≤ l.most
