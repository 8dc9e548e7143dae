use Rattle.par_move.proofs.Rising.{one_count}
use Rattle.par_move.proofs.laws.count_is_one.Goals as goal

pub returns : goal.returns
returns c = one_count
