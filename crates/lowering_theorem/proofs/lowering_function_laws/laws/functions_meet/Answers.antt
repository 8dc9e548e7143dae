use Rattle.lowering_theorem.proofs.LoweringFunctionLaws.Functions.{functions_meet}
use Rattle.lowering_theorem.proofs.lowering_function_laws.laws.functions_meet.Goals as goal

pub returns : goal.returns
returns g = functions_meet
