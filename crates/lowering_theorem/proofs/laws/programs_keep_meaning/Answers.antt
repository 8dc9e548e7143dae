use Rattle.lowering_theorem.proofs.Programs.{programs_keep_meaning}
use Rattle.lowering_theorem.proofs.laws.programs_keep_meaning.Goals as goal

pub returns : goal.returns
returns g = programs_keep_meaning
