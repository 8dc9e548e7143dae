use Rattle.lowering_theorem.proofs.Programs.{behaviours_are_kept}
use Rattle.lowering_theorem.proofs.laws.behaviours_are_kept.Goals as goal

pub returns : goal.returns
returns g = behaviours_are_kept
