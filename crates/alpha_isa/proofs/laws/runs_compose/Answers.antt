-- Runs, one after the other.
use Rattle.alpha_isa.proofs.Runs.{exec_split, exec_more}
use Rattle.alpha_isa.proofs.laws.runs_compose.Goals as goal

pub returns : goal.returns
returns c = record {
  split = exec_split;
  grows = exec_more;
}
