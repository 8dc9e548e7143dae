use Rattle.flow_clean.proofs.DeadRuns.{none_left}
use Rattle.flow_clean.proofs.laws.none_is_dead.Goals as goal

pub returns : goal.returns
returns c = none_left
