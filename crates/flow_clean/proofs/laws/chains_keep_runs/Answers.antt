use Rattle.flow_clean.proofs.ChainRuns.{chains_keep}
use Rattle.flow_clean.proofs.laws.chains_keep_runs.Goals as goal

pub returns : goal.returns
returns c = chains_keep
