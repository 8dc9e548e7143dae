use Rattle.bk_ilist.proofs.Views.{pairs_same, within, has_item, item_read}
use Rattle.bk_ilist.proofs.list.IndexList.get.Goals as goal

pub node_item-requires-clause-within : goal.node_item-requires-clause-within
node_item-requires-clause-within g c =
    rw c.deref.ensures.value (within _ _ _ _ _ c.self.invariant.0 (pairs_same _ _ c.self.view_is) c.requires)

pub node_item-requires-clause-item : goal.node_item-requires-clause-item
node_item-requires-clause-item g c =
    rw c.deref.ensures.value (has_item _ _ _ _ _ c.self.invariant.0 (pairs_same _ _ c.self.view_is) c.requires)

pub returns : goal.returns
returns g c before after item split =
    item_read _ _ _ _ before after c.args.id item c.node_item.result.now c.self.invariant.0 (pairs_same _ _ c.self.view_is) split (rw c.deref.ensures.value at c.node_item.ensures)
