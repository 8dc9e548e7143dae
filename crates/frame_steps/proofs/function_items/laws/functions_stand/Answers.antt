use Rattle.frame_steps.proofs.FunctionItems.Standing.{functions_stand}
use Rattle.frame_steps.proofs.function_items.laws.functions_stand.Goals as goal

pub returns : goal.returns
returns c = functions_stand
