use Rattle.lowering_expression_laws.proofs.LoweringConstantLaws.Constants.{constants_are_given}
use Rattle.lowering_expression_laws.proofs.lowering_constant_laws.laws.constants_are_given.Goals as goal

pub returns : goal.returns
returns g = constants_are_given
