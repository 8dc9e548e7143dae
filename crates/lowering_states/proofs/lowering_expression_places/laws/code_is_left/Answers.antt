use Rattle.lowering_states.proofs.LoweringExpressionPlaces.Behind.{left_expr, left_place}
use Rattle.lowering_states.proofs.lowering_expression_places.laws.code_is_left.Goals as goal

pub returns : goal.returns
returns g blocks last end locals ds ls x = record {
  value = λ depth. left_expr blocks last end locals ds ls x depth;
  place = λ depth plus. left_place blocks last end locals ds ls x depth plus;
}
