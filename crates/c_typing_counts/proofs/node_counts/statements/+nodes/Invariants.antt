-- What was counted so far is the front of the list.
use Rattle.std.proofs.Common.{◌≡◌, ◌-◌, ◌^◌, min, take}
use Rattle.c_typed_tree.specs.model.View.{stmts_view}
use Rattle.c_typed_tree.specs.Counts.{stmts_nodes, sections_nodes}
use Rattle.c_typed_tree.specs.model.Lists.{sections_view}
use Rattle.c_typing_counts.proofs.node_counts.statements.+nodes.Given as goal

abbrev pub invariant-stmts_nodes-loop-statement : goal.invariant-stmts_nodes-loop-statement
invariant-stmts_nodes-loop-statement l = l.total ≡ min (stmts_nodes (stmts_view (take l.statement-index l.statement-items))) (2 ^ 64 - 1)

abbrev pub invariant-sections_nodes-loop-section : goal.invariant-sections_nodes-loop-section
invariant-sections_nodes-loop-section l = l.total ≡ min (sections_nodes (sections_view (take l.section-index l.section-items))) (2 ^ 64 - 1)
