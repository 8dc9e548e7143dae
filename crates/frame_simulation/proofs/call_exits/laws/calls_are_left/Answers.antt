use Rattle.frame_simulation.proofs.CallExits.Leaving.{calls_are_left}
use Rattle.frame_simulation.proofs.CallExits.Ending.{runs_are_ended}
use Rattle.frame_simulation.proofs.call_exits.laws.calls_are_left.Goals as goal

pub returns : goal.returns
returns c = record { calls = calls_are_left; runs = runs_are_ended }
