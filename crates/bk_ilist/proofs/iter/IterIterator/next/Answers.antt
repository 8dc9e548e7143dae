use Rattle.std.proofs.Common.{ap, length, arith, sym, ◌∙◌}
use Rattle.bk_ilist.proofs.Tails.{tail_within, tail_has_item, tail_after, tail_first}
use Rattle.bk_ilist.proofs.iter.IterIterator.next.Goals as goal

pub node_next-self-inside-requires : goal.node_next-self-inside-requires
node_next-self-inside-requires g c = tail_within _ _ _ _ c.self.invariant c.in-Some.is

pub node_item-requires-clause-within : goal.node_item-requires-clause-within
node_item-requires-clause-within g c = tail_within _ _ _ _ c.self.invariant c.in-Some.is

pub node_item-requires-clause-item : goal.node_item-requires-clause-item
node_item-requires-clause-item g c = tail_has_item _ _ _ _ c.self.invariant c.in-Some.is

pub invariant_of-self : goal.invariant_of-self
invariant_of-self g c = tail_after _ _ _ _ c.self.invariant c.in-Some.is c.node_next-self-inside.ensures

pub returns-in-Some-clause-steps : goal.returns-in-Some-clause-steps
returns-in-Some-clause-steps g c =
    sym c.self.view_is ∙ tail_first _ _ _ _ _ c.self.invariant c.in-Some.is c.node_next-self-inside.ensures c.node_item.ensures

pub returns-in-Some-clause-goes : goal.returns-in-Some-clause-goes
returns-in-Some-clause-goes g c =
    let fewer = ap length (returns-in-Some-clause-steps g c) in
    record { on = λ finite. (tt, finite, omega arith); keeps = tt; rests = λ _. tt }
