use Rattle.frame_simulation.proofs.CallStacks.Stays.{callers_stay, stacks_stay}
use Rattle.frame_simulation.proofs.call_stacks.laws.callers_stay.Goals as goal

pub returns : goal.returns
returns c = record { callers = callers_stay; stacks = stacks_stay }
