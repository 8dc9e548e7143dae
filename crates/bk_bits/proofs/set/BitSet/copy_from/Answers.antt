use Rattle.bk_bits.proofs.Sets.{given_long, copy_keeps, copy_gives}
use Rattle.bk_bits.proofs.set.BitSet.copy_from.Goals as goal

pub take_over-requires : goal.take_over-requires
take_over-requires c = given_long _ _ _ _ _ _ _ c.self.invariant c.other.invariant c.self.view_is c.other.view_is c.requires c.as_slice.ensures.value

pub invariant_of-self : goal.invariant_of-self
invariant_of-self c = copy_keeps _ _ _ _ _ _ _ c.self.invariant c.other.invariant c.self.view_is c.other.view_is c.requires c.as_slice.ensures.value _ c.take_over.ensures

pub returns : goal.returns
returns c = copy_gives _ _ _ _ _ _ _ c.self.invariant c.other.invariant c.self.view_is c.other.view_is c.requires c.as_slice.ensures.value _ c.take_over.ensures
