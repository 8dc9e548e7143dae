-- What is written behind no items.
use Rattle.alpha_rt.proofs.Assembled.{from_none}
use Rattle.alpha_rt.proofs.items.routine_items.Goals as goal

pub returns : goal.returns
returns c = from_none _ _ c.new-items.ensures.items c.in_ok-write_all.ensures
