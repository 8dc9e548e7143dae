use Rattle.flow_clean.proofs.DeadRuns.{sums_fall}
use Rattle.flow_clean.proofs.laws.no_sum_rises.Goals as goal

pub returns : goal.returns
returns c = sums_fall
