use Rattle.bk_bits.proofs.Sets.{given_long, difference_keeps, difference_gives}
use Rattle.bk_bits.proofs.set.BitSet.subtract.Goals as goal

pub take_away-requires : goal.take_away-requires
take_away-requires c = given_long _ _ _ _ _ _ _ c.self.invariant c.other.invariant c.self.view_is c.other.view_is c.requires c.as_slice.ensures.value

pub invariant_of-self : goal.invariant_of-self
invariant_of-self c = difference_keeps _ _ _ _ _ _ _ c.self.invariant c.other.invariant c.self.view_is c.other.view_is c.requires c.as_slice.ensures.value _ c.take_away.ensures.made c.take_away.ensures.fits

pub returns-clause-difference : goal.returns-clause-difference
returns-clause-difference c = difference_gives _ _ _ _ _ _ _ c.self.invariant c.other.invariant c.self.view_is c.other.view_is c.requires c.as_slice.ensures.value _ c.take_away.ensures.made c.take_away.ensures.fits
