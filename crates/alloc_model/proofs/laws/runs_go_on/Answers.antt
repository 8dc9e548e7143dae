use Rattle.alloc_model.proofs.Runs.{extends, keep_output, peaks_rise}
use Rattle.alloc_model.proofs.laws.runs_go_on.Goals as goal

pub returns : goal.returns
returns c = record { output = extends; kept = keep_output; peak = peaks_rise }
