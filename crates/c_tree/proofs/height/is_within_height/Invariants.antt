use Rattle.std.proofs.Common.{◌≤◌, take}
use Rattle.c_tree.specs.Nodes.{nodes_height, nodes_of, external_node}
use Rattle.c_tree.proofs.height.is_within_height.Given as goal

abbrev pub invariant-loop-external : goal.invariant-loop-external
invariant-loop-external l = nodes_height (nodes_of external_node (take l.external-index l.external-items)) ≤ l.most
