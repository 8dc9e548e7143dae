use Rattle.flow_clean.proofs.CopyRuns.{origins_keep}
use Rattle.flow_clean.proofs.laws.origins_keep_runs.Goals as goal

pub returns : goal.returns
returns c = origins_keep
