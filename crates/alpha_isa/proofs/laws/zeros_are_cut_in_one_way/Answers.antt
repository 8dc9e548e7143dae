use Rattle.alpha_isa.proofs.Zeros.{one_cut}
use Rattle.alpha_isa.proofs.laws.zeros_are_cut_in_one_way.Goals as goal

pub returns : goal.returns
returns c = one_cut
