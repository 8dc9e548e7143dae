use Rattle.lowering_expression_laws.proofs.LoweringPointerLaws.Differences.{pointers_are_moved}
use Rattle.lowering_expression_laws.proofs.lowering_pointer_laws.laws.pointers_are_moved.Goals as goal

pub returns : goal.returns
returns g = pointers_are_moved
