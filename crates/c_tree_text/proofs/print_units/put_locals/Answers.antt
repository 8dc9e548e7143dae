use Rattle.c_tree.specs.Nodes.{local_node}
use Rattle.c_tree_text.proofs.Lines.{one_more}
use Rattle.c_tree_text.proofs.print_units.put_locals.Goals as goal

pub loop-local-preserved : goal.loop-local-preserved
loop-local-preserved c =
    one_more _ _ _ _ local_node _ _ _ c.loop-local-test.true c.local-item.is c.loop-local.invariant c.in_ok-put_local.ensures
