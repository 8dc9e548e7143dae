use Rattle.frame_steps.proofs.MachineBounds.Steps.{runs_stay_bounded}
use Rattle.frame_steps.proofs.machine_bounds.laws.runs_stay_bounded.Goals as goal

pub returns : goal.returns
returns c = runs_stay_bounded
