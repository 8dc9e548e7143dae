use Rattle.lowering_theorem.proofs.LoweringFunctionLaws.Functions.{functions_without_turns_meet}
use Rattle.lowering_theorem.proofs.lowering_function_laws.laws.functions_without_turns_meet.Goals as goal

pub returns : goal.returns
returns g = functions_without_turns_meet
