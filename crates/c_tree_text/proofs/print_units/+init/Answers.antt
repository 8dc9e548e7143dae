use Rattle.std.proofs.Common.{sym, ap, ◌∙◌}
use Rattle.c_tree.specs.Nodes.{node, nodes_of, init_node}
use Rattle.std.specs.Prelude.{codes}
use Rattle.c_tree.specs.model.Open.{opens}
use Rattle.c_tree.proofs.Rows.{init_row-hidden}
use Rattle.c_tree_text.proofs.Lines.{one_more, under_ok}
use Rattle.c_tree_text.proofs.print_units.+init.Goals as goal

pub put_inits-loop-init-preserved : goal.put_inits-loop-init-preserved
put_inits-loop-init-preserved t c =
    one_more _ _ _ _ init_node _ _ _ c.loop-init-test.true c.init-item.is c.loop-init.invariant c.in_ok-put_init.ensures

pub put_init-returns-in_ok-indent-in-List : goal.put_init-returns-in_ok-indent-in-List
unfolding opens
put_init-returns-in_ok-indent-in-List t c =
    under_ok _ _ _ _ _ _ (codes "list") (nodes_of init_node c.as_slice.result.now) _ (ap (node (codes "list")) (ap (nodes_of init_node) c.as_slice.ensures ∙ sym (init_row-hidden _)) ∙ sym (ap init_node c.in-List.is))
    c.in_ok-put_line-in-List.ensures (c.deref.ensures.value ∙ c.in_ok-indent-in-List.ensures) c.put_inits.ensures
