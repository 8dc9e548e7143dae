use Rattle.c_semantics.proofs.Behaviours.{peaks_rise}
use Rattle.c_semantics.proofs.laws.peaks_rise.Goals as goal

pub returns : goal.returns
returns g = peaks_rise
