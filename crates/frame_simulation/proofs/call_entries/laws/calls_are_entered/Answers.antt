use Rattle.frame_simulation.proofs.CallEntries.Entering.{calls_are_entered}
use Rattle.frame_simulation.proofs.call_entries.laws.calls_are_entered.Goals as goal

pub returns : goal.returns
returns c = calls_are_entered
