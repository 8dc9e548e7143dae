-- What was counted so far is the front of the list.
use Rattle.std.proofs.Common.{◌≡◌, ◌-◌, ◌^◌, min, sum_by, take}
use Rattle.c_typed_tree.specs.Counts.{function_nodes}
use Rattle.c_typing_counts.proofs.node_counts.units.unit_nodes.Given as goal

abbrev pub invariant-loop-function : goal.invariant-loop-function
invariant-loop-function l = l.total ≡ min (sum_by function_nodes (take l.function-index l.function-items)) (2 ^ 64 - 1)
