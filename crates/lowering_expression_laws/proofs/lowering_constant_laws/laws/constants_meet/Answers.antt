use Rattle.lowering_expression_laws.proofs.LoweringConstantLaws.Conversions.{constants_meet}
use Rattle.lowering_expression_laws.proofs.lowering_constant_laws.laws.constants_meet.Goals as goal

pub returns : goal.returns
returns g = constants_meet
