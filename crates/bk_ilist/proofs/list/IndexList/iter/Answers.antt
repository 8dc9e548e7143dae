use Rattle.bk_ilist.proofs.Tails.{tail_of_chain}
use Rattle.bk_ilist.proofs.list.IndexList.iter.Goals as goal

pub invariant_of-result : goal.invariant_of-result
invariant_of-result g c = rw (c.as_slice.ensures.value, c.id.ensures.value) (tail_of_chain _ _ _ _ c.self.invariant.0)
