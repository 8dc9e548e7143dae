use Rattle.frame_simulation.proofs.FlatSteps.Steps.{steps_are_done}
use Rattle.frame_simulation.proofs.flat_steps.laws.steps_are_done.Goals as goal

pub returns : goal.returns
returns c = steps_are_done
