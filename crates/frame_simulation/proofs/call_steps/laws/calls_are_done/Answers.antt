use Rattle.frame_simulation.proofs.CallSteps.Calls.{calls_are_done, returns_are_done, last_returns_are_done}
use Rattle.frame_simulation.proofs.call_steps.laws.calls_are_done.Goals as goal

pub returns : goal.returns
returns c = record { calls = calls_are_done; back = returns_are_done; ends = last_returns_are_done }
