use Rattle.std.proofs.Common.{◌∙◌, arith}
use Rattle.bk_ilist.proofs.Chains.{chain_read, pairs_from-chain}
use Rattle.bk_ilist.proofs.Views.{pairs_same, spare_same, gap_prev, gap_next}
use Rattle.bk_ilist.proofs.Writes.{inserted_node}
use Rattle.bk_ilist.proofs.list.IndexList.insert_between.Goals as goal

pub to-requires : goal.to-requires
to-requires g c =
    let has = c.requires.place in
    gap_next _ _ _ _ has.before has.after c.args.next _ c.self.invariant.0 (pairs_same _ _ c.self.view_is) has.split has.next_is (omega (arith, c.self.invariant.2))

pub to-requires-2 : goal.to-requires-2
to-requires-2 g c =
    let has = c.requires.place in
    gap_prev _ _ _ _ has.before has.after c.args.prev _ c.self.invariant.0 (pairs_same _ _ c.self.view_is) has.split has.prev_is (omega (arith, c.self.invariant.2))

pub link_forward-requires-clause-node : goal.link_forward-requires-clause-node
link_forward-requires-clause-node g c =
    let has = c.requires.place in
    let same = c.self.inside.nodes.ok in
    gap_prev _ _ _ _ has.before has.after c.args.prev _ c.self.invariant.0 (pairs_same _ _ c.self.view_is) has.split has.prev_is (omega (arith, c.deref_mut.ensures.len, c.push_reserved.ensures.len))

pub link_back-requires-clause-node : goal.link_back-requires-clause-node
link_back-requires-clause-node g c =
    let has = c.requires.place in
    let same = c.self.inside.nodes.ok in
    gap_next _ _ _ _ has.before has.after c.args.next _ c.self.invariant.0 (pairs_same _ _ c.self.view_is) has.split has.next_is (omega (arith, c.deref_mut-2.ensures.len, c.push_reserved.ensures.len))

pub invariant_of-self : goal.invariant_of-self
invariant_of-self g c =
    let has = c.requires.place in
    let same = c.self.inside.nodes.ok in
    let done = inserted_node _ _ _ _ _ _ _ _ _ _ _ _ _ _ has.before has.after _ _ c.self.invariant.0 (pairs_same _ _ c.self.view_is ∙ has.split) has.prev_is has.next_is (omega arith) (rw (c.to.ensures, c.to-2.ensures) at c.push_reserved.ensures.items) c.push_reserved.new.self.ok.0 c.deref_mut.ensures.value c.link_forward.auto.nodes c.link_forward.ensures.nodes c.deref_mut-2.ensures.value c.link_back.auto.nodes c.link_back.ensures.nodes c.link_forward.ensures.first c.link_back.ensures.last in
    let spare = spare_same _ _ c.self.view_is in
    rw done.is (chain_read _ _ _ _ done.chain, omega (arith, done.grown, c.push_reserved.ensures.capacity), omega (arith, done.grown))

pub returns-clause-pairs : goal.returns-clause-pairs
returns-clause-pairs g c before after split prev_is next_is =
    let same = c.self.inside.nodes.ok in
    let done = inserted_node _ _ _ _ _ _ _ _ _ _ _ _ _ _ before after _ _ c.self.invariant.0 (pairs_same _ _ c.self.view_is ∙ split) prev_is next_is (omega arith) (rw (c.to.ensures, c.to-2.ensures) at c.push_reserved.ensures.items) c.push_reserved.new.self.ok.0 c.deref_mut.ensures.value c.link_forward.auto.nodes c.link_forward.ensures.nodes c.deref_mut-2.ensures.value c.link_back.auto.nodes c.link_back.ensures.nodes c.link_forward.ensures.first c.link_back.ensures.last in
    rw done.is (pairs_from-chain _ _ _ _ done.chain)
