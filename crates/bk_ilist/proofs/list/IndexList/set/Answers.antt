use Rattle.std.proofs.Common.{◌∙◌, arith}
use Rattle.bk_ilist.proofs.Chains.{chain_read, pairs_from-chain}
use Rattle.bk_ilist.proofs.Views.{pairs_same, within, has_item, item_read}
use Rattle.bk_ilist.proofs.Writes.{item_set}
use Rattle.bk_ilist.proofs.list.IndexList.set.Goals as goal

pub swap_item-requires-clause-within : goal.swap_item-requires-clause-within
swap_item-requires-clause-within g c =
    rw c.deref_mut.ensures.value (within _ _ _ _ _ c.self.invariant.0 (pairs_same _ _ c.self.view_is) c.requires)

pub swap_item-requires-clause-item : goal.swap_item-requires-clause-item
swap_item-requires-clause-item g c =
    rw c.deref_mut.ensures.value (has_item _ _ _ _ _ c.self.invariant.0 (pairs_same _ _ c.self.view_is) c.requires)

pub invariant_of-self : goal.invariant_of-self
invariant_of-self g c =
    let has = c.requires in
    let done = item_set _ _ _ _ _ _ _ has.before has.after c.args.id has.item c.args.item c.self.invariant.0 (pairs_same _ _ c.self.view_is ∙ has.split) c.self.inside.nodes.ok.0 c.deref_mut.ensures.value c.swap_item.auto.nodes c.swap_item.ensures.nodes in
    rw done.is (chain_read _ _ _ _ done.chain, omega (arith, done.same), omega (arith, done.same))

pub returns-clause-value : goal.returns-clause-value
returns-clause-value g c before after old split =
    item_read _ _ _ _ before after c.args.id old _ c.self.invariant.0 (pairs_same _ _ c.self.view_is) split (rw c.deref_mut.ensures.value at c.swap_item.ensures.value)

pub returns-clause-pairs : goal.returns-clause-pairs
returns-clause-pairs g c before after old split =
    let done = item_set _ _ _ _ _ _ _ before after c.args.id old c.args.item c.self.invariant.0 (pairs_same _ _ c.self.view_is ∙ split) c.self.inside.nodes.ok.0 c.deref_mut.ensures.value c.swap_item.auto.nodes c.swap_item.ensures.nodes in
    rw done.is (pairs_from-chain _ _ _ _ done.chain)
