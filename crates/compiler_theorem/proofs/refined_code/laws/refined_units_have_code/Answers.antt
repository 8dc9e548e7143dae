use Rattle.compiler_theorem.proofs.RefinedCode.{refined_units_have_code}
use Rattle.compiler_theorem.proofs.refined_code.laws.refined_units_have_code.Goals as goal

pub returns : goal.returns
returns g = refined_units_have_code
