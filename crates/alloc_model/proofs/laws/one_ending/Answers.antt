use Rattle.alloc_model.proofs.Runs.{one_ending}
use Rattle.alloc_model.proofs.laws.one_ending.Goals as goal

pub returns : goal.returns
returns c = one_ending
