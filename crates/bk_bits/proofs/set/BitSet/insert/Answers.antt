use Rattle.bk_bits.proofs.Sets.{in_words, insert_keeps, insert_is}
use Rattle.bk_bits.proofs.set.BitSet.insert.Goals as goal

pub put_in-requires : goal.put_in-requires
put_in-requires c = in_words _ _ _ _ c.self.invariant c.self.view_is c.requires

pub invariant_of-self : goal.invariant_of-self
invariant_of-self c = insert_keeps _ _ _ _ c.self.invariant c.self.view_is c.requires _ c.put_in.ensures

pub returns : goal.returns
returns c = insert_is _ _ _ _ c.self.invariant c.self.view_is c.requires _ c.put_in.ensures
