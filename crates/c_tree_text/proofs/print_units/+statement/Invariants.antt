use Rattle.std.proofs.Common.{◌≡◌, ◌++◌, ◌∷◌, [], take}
use Rattle.c_tree.specs.Nodes.{nodes_text, nodes_of, stmt_node}
use Rattle.c_tree.specs.model.Parts.{section_node}
use Rattle.c_tree_text.proofs.print_units.+statement.Given as goal

abbrev pub invariant-put_stmts-loop-stmt : goal.invariant-put_stmts-loop-stmt
invariant-put_stmts-loop-stmt l = l.out.items ≡ l.initial.out.items ++ nodes_text l.indent (nodes_of stmt_node (take l.stmt-index l.list))

abbrev pub invariant-put_sections-loop-section : goal.invariant-put_sections-loop-section
invariant-put_sections-loop-section l = (l.under.items ≡ l.indent ++ 32 ∷ 32 ∷ []) × (l.out.items ≡ l.initial.out.items ++ nodes_text l.indent (nodes_of section_node (take l.section-index l.list)))
