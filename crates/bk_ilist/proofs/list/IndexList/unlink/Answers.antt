use Rattle.std.proofs.Common.{◌∙◌, arith}
use Rattle.bk_ilist.proofs.Chains.{chain_read, pairs_from-chain}
use Rattle.bk_ilist.proofs.Views.{pairs_same, within, has_item, item_read, prev_read, next_read, prev_within, next_within}
use Rattle.bk_ilist.proofs.Writes.{unlinked_node}
use Rattle.bk_ilist.proofs.list.IndexList.unlink.Goals as goal

pub index-requires : goal.index-requires
index-requires g c =
    let same = c.self.inside.nodes.ok in
    omega (arith, within _ _ _ _ _ c.self.invariant.0 (pairs_same _ _ c.self.view_is) c.requires)

pub index-requires-2 : goal.index-requires-2
index-requires-2 g c =
    let same = c.self.inside.nodes.ok in
    omega (arith, within _ _ _ _ _ c.self.invariant.0 (pairs_same _ _ c.self.view_is) c.requires)

pub swap_item-item-requires-clause-within : goal.swap_item-item-requires-clause-within
swap_item-item-requires-clause-within g c =
    rw c.deref_mut.ensures.value (within _ _ _ _ _ c.self.invariant.0 (pairs_same _ _ c.self.view_is) c.requires)

pub swap_item-item-requires-clause-item : goal.swap_item-item-requires-clause-item
swap_item-item-requires-clause-item g c =
    rw c.deref_mut.ensures.value (has_item _ _ _ _ _ c.self.invariant.0 (pairs_same _ _ c.self.view_is) c.requires)

pub link_forward-requires-clause-node : goal.link_forward-requires-clause-node
link_forward-requires-clause-node g c =
    let same = c.self.inside.nodes.ok in
    rw c.id-prev.ensures.value (prev_within _ _ _ _ c.args.id _ _ c.self.invariant.0 (pairs_same _ _ c.self.view_is) c.requires c.index.ensures (omega (arith, c.deref_mut-2.ensures.len)))

pub link_back-requires-clause-node : goal.link_back-requires-clause-node
link_back-requires-clause-node g c =
    let same = c.self.inside.nodes.ok in
    rw c.id-next.ensures.value (next_within _ _ _ _ c.args.id _ _ c.self.invariant.0 (pairs_same _ _ c.self.view_is) c.requires c.index-2.ensures (omega (arith, c.deref_mut-3.ensures.len)))

pub invariant_of-self : goal.invariant_of-self
invariant_of-self g c =
    let has = c.requires in
    let view = pairs_same _ _ c.self.view_is in
    let prev = c.id-prev.ensures.value ∙ prev_read _ _ _ _ has.before has.after c.args.id has.item _ c.self.invariant.0 view has.split c.index.ensures in
    let next = c.id-next.ensures.value ∙ next_read _ _ _ _ has.before has.after c.args.id has.item _ c.self.invariant.0 view has.split c.index-2.ensures in
    let done = unlinked_node _ _ _ _ _ _ _ _ _ _ _ _ _ _ _ has.before has.after c.args.id has.item c.self.invariant.0 (view ∙ has.split) prev next c.self.inside.nodes.ok.0 c.deref_mut.ensures.value c.swap_item-item.auto.nodes c.swap_item-item.ensures.nodes c.deref_mut-2.ensures.value c.link_forward.auto.nodes c.link_forward.ensures.nodes c.deref_mut-3.ensures.value c.link_back.auto.nodes c.link_back.ensures.nodes c.link_forward.ensures.first c.link_back.ensures.last in
    rw done.is (chain_read _ _ _ _ done.chain, omega (arith, done.same), omega (arith, done.same))

pub returns-clause-value : goal.returns-clause-value
returns-clause-value g c before after item split =
    item_read _ _ _ _ before after c.args.id item _ c.self.invariant.0 (pairs_same _ _ c.self.view_is) split (rw c.deref_mut.ensures.value at c.swap_item-item.ensures.value)

pub returns-clause-pairs : goal.returns-clause-pairs
returns-clause-pairs g c before after item split =
    let view = pairs_same _ _ c.self.view_is in
    let prev = c.id-prev.ensures.value ∙ prev_read _ _ _ _ before after c.args.id item _ c.self.invariant.0 view split c.index.ensures in
    let next = c.id-next.ensures.value ∙ next_read _ _ _ _ before after c.args.id item _ c.self.invariant.0 view split c.index-2.ensures in
    let done = unlinked_node _ _ _ _ _ _ _ _ _ _ _ _ _ _ _ before after c.args.id item c.self.invariant.0 (view ∙ split) prev next c.self.inside.nodes.ok.0 c.deref_mut.ensures.value c.swap_item-item.auto.nodes c.swap_item-item.ensures.nodes c.deref_mut-2.ensures.value c.link_forward.auto.nodes c.link_forward.ensures.nodes c.deref_mut-3.ensures.value c.link_back.auto.nodes c.link_back.ensures.nodes c.link_forward.ensures.first c.link_back.ensures.last in
    rw done.is (pairs_from-chain _ _ _ _ done.chain)
