use Rattle.alloc_model.proofs.Lifetimes.{unique}
use Rattle.alloc_model.proofs.laws.lifetimes_are_unique.Goals as goal

pub returns : goal.returns
returns c = unique
