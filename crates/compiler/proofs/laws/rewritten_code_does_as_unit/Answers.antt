use Rattle.compiler.proofs.Rewritten.{rewritten_code_does_as_unit}
use Rattle.compiler.proofs.laws.rewritten_code_does_as_unit.Goals as goal

pub returns : goal.returns
returns c = rewritten_code_does_as_unit c.refined_units_have_code.ensures
