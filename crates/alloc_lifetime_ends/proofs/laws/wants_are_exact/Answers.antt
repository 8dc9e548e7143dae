use Rattle.alloc_lifetime_ends.proofs.Wants.{wants_exact}
use Rattle.alloc_lifetime_ends.proofs.laws.wants_are_exact.Goals as goal

pub returns : goal.returns
returns c = wants_exact
