use Rattle.lowering_expression_laws.proofs.LoweringPointerLaws.Distances.{distances_meet}
use Rattle.lowering_expression_laws.proofs.lowering_pointer_laws.laws.distances_meet.Goals as goal

pub returns : goal.returns
returns g = distances_meet
