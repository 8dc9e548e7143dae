use Rattle.par_move.proofs.Rising.{one_list}
use Rattle.par_move.proofs.laws.cycles_are_one_list.Goals as goal

pub returns : goal.returns
returns c = one_list
