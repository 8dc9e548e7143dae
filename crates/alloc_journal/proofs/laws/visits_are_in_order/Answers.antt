use Rattle.alloc_journal.proofs.Ordered.{in_order}
use Rattle.alloc_journal.proofs.laws.visits_are_in_order.Goals as goal

pub returns : goal.returns
returns c = in_order
