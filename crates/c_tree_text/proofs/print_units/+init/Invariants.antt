use Rattle.std.proofs.Common.{◌≡◌, ◌++◌, take}
use Rattle.c_tree.specs.Nodes.{nodes_text, nodes_of, init_node}
use Rattle.c_tree_text.proofs.print_units.+init.Given as goal

abbrev pub invariant-put_inits-loop-init : goal.invariant-put_inits-loop-init
invariant-put_inits-loop-init l = l.out.items ≡ l.initial.out.items ++ nodes_text l.indent (nodes_of init_node (take l.init-index l.list))
