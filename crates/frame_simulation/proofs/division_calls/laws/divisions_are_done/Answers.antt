use Rattle.frame_simulation.proofs.DivisionCalls.Divisions.{divisions_are_done}
use Rattle.frame_simulation.proofs.division_calls.laws.divisions_are_done.Goals as goal

pub returns : goal.returns
returns c = divisions_are_done
