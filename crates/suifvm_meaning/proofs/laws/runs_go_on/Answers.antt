use Rattle.suifvm_meaning.proofs.Runs.{extends, peak_rises}
use Rattle.suifvm_meaning.proofs.Output.{keeps_output}
use Rattle.suifvm_meaning.proofs.laws.runs_go_on.Goals as goal

pub returns : goal.returns
returns c = record { output = extends; kept = keeps_output; peak = peak_rises }
