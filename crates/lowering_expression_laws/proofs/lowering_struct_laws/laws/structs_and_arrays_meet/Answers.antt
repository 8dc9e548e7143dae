use Rattle.lowering_expression_laws.proofs.LoweringStructLaws.Structs.{structs_and_arrays_meet}
use Rattle.lowering_expression_laws.proofs.lowering_struct_laws.laws.structs_and_arrays_meet.Goals as goal

pub returns : goal.returns
returns g = structs_and_arrays_meet
