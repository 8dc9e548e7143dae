use Rattle.alloc_rules.proofs.RightPlacements.{loop_is_faithful}
use Rattle.alloc_rules.proofs.laws.a_loop_with_a_call_is_faithful.Goals as goal

pub returns : goal.returns
returns c = loop_is_faithful
