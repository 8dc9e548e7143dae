use Rattle.bk_bits.proofs.Sets.{in_words, remove_keeps, remove_is}
use Rattle.bk_bits.proofs.set.BitSet.remove.Goals as goal

pub take_out-requires : goal.take_out-requires
take_out-requires c = in_words _ _ _ _ c.self.invariant c.self.view_is c.requires

pub invariant_of-self : goal.invariant_of-self
invariant_of-self c = remove_keeps _ _ _ _ c.self.invariant c.self.view_is c.requires _ c.take_out.ensures

pub returns : goal.returns
returns c = remove_is _ _ _ _ c.self.invariant c.self.view_is c.requires _ c.take_out.ensures
