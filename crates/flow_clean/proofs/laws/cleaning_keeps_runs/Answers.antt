use Rattle.flow_clean.proofs.DeadRuns.{cleaning_keeps}
use Rattle.flow_clean.proofs.laws.cleaning_keeps_runs.Goals as goal

pub returns : goal.returns
returns c = cleaning_keeps c.only_these_trap.ensures
