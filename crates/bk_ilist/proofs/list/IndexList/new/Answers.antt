use Rattle.std.proofs.Common.{refl, arith}
use Rattle.bk_ilist.proofs.Views.{empty_chain, empty_pairs}
use Rattle.bk_ilist.proofs.list.IndexList.new.Goals as goal

pub invariant_of-result : goal.invariant_of-result
invariant_of-result g c = rw (c.new.ensures.items, c.to.ensures, c.to-2.ensures) (empty_chain, omega arith, omega arith)

pub returns : goal.returns
returns g c = rw (c.new.ensures.items, c.to.ensures, empty_pairs) refl
