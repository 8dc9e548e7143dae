use Rattle.std.proofs.Common.{◌≤◌, take}
use Rattle.c_tree.specs.Nodes.{nodes_height, nodes_of, stmt_node}
use Rattle.c_tree.specs.model.Parts.{section_node}
use Rattle.c_tree.proofs.height.+statement.Given as goal

abbrev pub invariant-are_stmts_within-loop-stmt : goal.invariant-are_stmts_within-loop-stmt
invariant-are_stmts_within-loop-stmt l = nodes_height (nodes_of stmt_node (take l.stmt-index l.list)) ≤ l.most

abbrev pub invariant-are_sections_within-loop-section : goal.invariant-are_sections_within-loop-section
invariant-are_sections_within-loop-section l = nodes_height (nodes_of section_node (take l.section-index l.list)) ≤ l.most
