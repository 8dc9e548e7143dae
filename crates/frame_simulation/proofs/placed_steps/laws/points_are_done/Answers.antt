use Rattle.frame_simulation.proofs.PlacedSteps.Points.{points_are_done}
use Rattle.frame_simulation.proofs.placed_steps.laws.points_are_done.Goals as goal

pub returns : goal.returns
returns c = points_are_done
