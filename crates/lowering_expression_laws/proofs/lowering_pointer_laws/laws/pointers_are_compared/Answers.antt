use Rattle.lowering_expression_laws.proofs.LoweringPointerLaws.Comparisons.{pointers_are_compared}
use Rattle.lowering_expression_laws.proofs.lowering_pointer_laws.laws.pointers_are_compared.Goals as goal

pub returns : goal.returns
returns g = pointers_are_compared
