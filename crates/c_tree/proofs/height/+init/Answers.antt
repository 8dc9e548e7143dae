use Rattle.std.proofs.Common.{sym, ap, ◌∙◌, arith}
use Rattle.std.specs.Prelude.{codes}
use Rattle.c_tree.specs.Nodes.{node, init_node, nodes_of}
use Rattle.c_tree.specs.model.Open.{opens}
use Rattle.c_tree.proofs.Rows.{init_row-hidden}
use Rattle.c_tree.proofs.Heights.{one_more, too_high, node-is}
use Rattle.c_tree.proofs.height.+init.Goals as goal

pub are_inits_within-loop-init-preserved : goal.are_inits_within-loop-init-preserved
are_inits_within-loop-init-preserved t c =
    one_more init_node _ _ _ _ _ c.loop-init-test.true c.init-item.is c.is_init_within.ensures c.if-not-is_init_within.false c.loop-init.invariant

pub are_inits_within-returns-then-not-is_init_within : goal.are_inits_within-returns-then-not-is_init_within
are_inits_within-returns-then-not-is_init_within t c =
    too_high init_node _ _ _ _ _ c.loop-init-test.true c.init-item.is c.is_init_within.ensures c.if-not-is_init_within.true

pub is_init_within-returns-in-Some : goal.is_init_within-returns-in-Some
unfolding opens
is_init_within-returns-in-Some t c =
    node-is _ (codes "list") _ _ _ _ (ap (node (codes "list")) (ap (nodes_of init_node) c.as_slice.ensures ∙ sym (init_row-hidden _)) ∙ sym (ap init_node c.in-List.is)) (omega arith) c.are_inits_within.ensures
