-- What was counted so far is the front of the list.
use Rattle.std.proofs.Common.{◌≡◌, ◌-◌, ◌^◌, min, take}
use Rattle.c_typed_tree.specs.model.View.{exprs_view}
use Rattle.c_typed_tree.specs.Counts.{exprs_nodes}
use Rattle.c_typing_counts.proofs.node_counts.expressions.+nodes.Given as goal

abbrev pub invariant-exprs_nodes-loop-e : goal.invariant-exprs_nodes-loop-e
invariant-exprs_nodes-loop-e l = l.total ≡ min (exprs_nodes (exprs_view (take l.e-index l.e-items))) (2 ^ 64 - 1)
