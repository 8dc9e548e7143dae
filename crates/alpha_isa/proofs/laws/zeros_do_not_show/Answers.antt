use Rattle.alpha_isa.proofs.Zeros.{behave_same}
use Rattle.alpha_isa.proofs.laws.zeros_do_not_show.Goals as goal

pub returns : goal.returns
returns c = behave_same
