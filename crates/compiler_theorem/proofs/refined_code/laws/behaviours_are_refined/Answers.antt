use Rattle.compiler_theorem.proofs.RefinedCode.{behaviours_are_refined}
use Rattle.compiler_theorem.proofs.refined_code.laws.behaviours_are_refined.Goals as goal

pub returns : goal.returns
returns g = behaviours_are_refined
