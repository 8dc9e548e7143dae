use Rattle.bk_ilist.proofs.Views.{lawful}
use Rattle.bk_ilist.proofs.list.IndexList.made.Goals as goal

pub returns-clause-lawful : goal.returns-clause-lawful
returns-clause-lawful g c = rw (← c.self.view_is) (lawful _ _ _ _ c.self.invariant.0 c.self.invariant.2)
