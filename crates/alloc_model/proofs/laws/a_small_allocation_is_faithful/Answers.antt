use Rattle.alloc_model.proofs.Small.{small_is_faithful}
use Rattle.alloc_model.proofs.laws.a_small_allocation_is_faithful.Goals as goal

pub returns : goal.returns
returns c = small_is_faithful
