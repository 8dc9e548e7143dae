use Rattle.lowering_expression_laws.proofs.LoweringExpressionTheorem.Expressions.{expressions_meet}
use Rattle.lowering_expression_laws.proofs.lowering_expression_theorem.laws.expressions_meet.Goals as goal

pub returns : goal.returns
returns g = expressions_meet
