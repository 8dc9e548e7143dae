-- What was counted so far is the front of the list.
use Rattle.std.proofs.Common.{◌≡◌, ◌-◌, ◌^◌, min, map, sum_by, take}
use Rattle.c_typed_tree.specs.View.{local_view}
use Rattle.c_typed_tree.specs.Counts.{declared_nodes}
use Rattle.c_typing_counts.proofs.node_counts.statements.locals_nodes.Given as goal

abbrev pub invariant-loop-local : goal.invariant-loop-local
invariant-loop-local l = l.total ≡ min (sum_by declared_nodes (map local_view (take l.local-index l.local-items))) (2 ^ 64 - 1)
