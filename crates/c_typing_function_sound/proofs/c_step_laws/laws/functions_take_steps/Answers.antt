use Rattle.c_typing_function_sound.proofs.CStepLaws.Statements.{function_steps}
use Rattle.c_typing_function_sound.proofs.c_step_laws.laws.functions_take_steps.Goals as goal

pub returns : goal.returns
returns c = function_steps
