use Rattle.lowering_expression_laws.proofs.LoweringPointerLaws.Above.{pointers_above_are_moved}
use Rattle.lowering_expression_laws.proofs.lowering_pointer_laws.laws.pointers_above_are_moved.Goals as goal

pub returns : goal.returns
returns g = pointers_above_are_moved
