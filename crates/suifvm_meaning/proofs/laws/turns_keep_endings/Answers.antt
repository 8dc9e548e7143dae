use Rattle.suifvm_meaning.proofs.Runs.{more_turns}
use Rattle.suifvm_meaning.proofs.laws.turns_keep_endings.Goals as goal

pub returns : goal.returns
returns c = more_turns
