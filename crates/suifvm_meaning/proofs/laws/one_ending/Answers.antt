use Rattle.suifvm_meaning.proofs.Runs.{one_ending}
use Rattle.suifvm_meaning.proofs.laws.one_ending.Goals as goal

pub returns : goal.returns
returns c = one_ending
