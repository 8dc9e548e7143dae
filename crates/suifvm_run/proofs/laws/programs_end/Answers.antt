-- The law is proved by a measure.
use Rattle.suifvm_run.proofs.Ends.{programs_end}
use Rattle.suifvm_run.proofs.laws.programs_end.Goals as goal

pub returns : goal.returns
returns c = programs_end
