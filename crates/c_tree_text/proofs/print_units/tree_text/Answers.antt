use Rattle.std.proofs.Common.{[]}
use Rattle.c_tree.specs.Nodes.{external_node}
use Rattle.c_tree_text.proofs.Lines.{one_more}
use Rattle.c_tree_text.proofs.print_units.tree_text.Goals as goal

pub loop-external-preserved : goal.loop-external-preserved
loop-external-preserved c =
    one_more [] _ _ [] external_node _ _ _ c.loop-external-test.true c.external-item.is c.loop-external.invariant c.in_ok-put_external.ensures
