use Rattle.machine_model.proofs.Peaks.{peak_rises}
use Rattle.machine_model.proofs.laws.peaks_rise.Goals as goal

pub returns : goal.returns
returns g c = peak_rises _ _
