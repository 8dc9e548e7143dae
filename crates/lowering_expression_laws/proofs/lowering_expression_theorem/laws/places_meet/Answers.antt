use Rattle.lowering_expression_laws.proofs.LoweringExpressionTheorem.Expressions.{places_meet}
use Rattle.lowering_expression_laws.proofs.lowering_expression_theorem.laws.places_meet.Goals as goal

pub returns : goal.returns
returns g = places_meet
