use Rattle.c_tree.specs.Nodes.{local_node}
use Rattle.c_tree.proofs.Heights.{one_more, too_high}
use Rattle.c_tree.proofs.height.are_locals_within.Goals as goal

pub loop-local-preserved : goal.loop-local-preserved
loop-local-preserved c =
    one_more local_node _ _ _ _ _ c.loop-local-test.true c.local-item.is c.is_local_within.ensures c.if-not-is_local_within.false c.loop-local.invariant

pub returns-then-not-is_local_within : goal.returns-then-not-is_local_within
returns-then-not-is_local_within c =
    too_high local_node _ _ _ _ _ c.loop-local-test.true c.local-item.is c.is_local_within.ensures c.if-not-is_local_within.true
