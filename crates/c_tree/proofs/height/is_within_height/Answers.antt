use Rattle.std.proofs.Common.{ap}
use Rattle.c_tree.specs.Nodes.{external_node, nodes_of}
use Rattle.c_tree.proofs.Heights.{one_more, too_high, height-is}
use Rattle.c_tree.proofs.height.is_within_height.Goals as goal

pub loop-external-preserved : goal.loop-external-preserved
loop-external-preserved c =
    one_more external_node _ _ _ _ _ c.loop-external-test.true c.external-item.is c.is_external_within.ensures c.if-not-is_external_within.false c.loop-external.invariant

pub returns-then-not-is_external_within : goal.returns-then-not-is_external_within
returns-then-not-is_external_within c =
    height-is _ _ _ _ (ap (nodes_of external_node) c.as_slice-external-items.ensures) (too_high external_node _ _ _ _ _ c.loop-external-test.true c.external-item.is c.is_external_within.ensures c.if-not-is_external_within.true)
