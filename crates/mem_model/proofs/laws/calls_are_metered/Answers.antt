use Rattle.mem_model.proofs.Endings.{calls_are_metered}
use Rattle.mem_model.proofs.laws.calls_are_metered.Goals as goal

pub returns : goal.returns
returns c = calls_are_metered
