use Rattle.alloc_model.proofs.Runs.{more_turns}
use Rattle.alloc_model.proofs.laws.turns_keep_endings.Goals as goal

pub returns : goal.returns
returns c = more_turns
