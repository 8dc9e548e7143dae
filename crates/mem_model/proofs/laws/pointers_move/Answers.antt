use Rattle.mem_model.proofs.Pointers.{plus_twice, minus_undoes_plus, plus_undoes_minus}
use Rattle.mem_model.proofs.laws.pointers_move.Goals as goal

pub returns : goal.returns
returns c = record { twice = plus_twice; distance = minus_undoes_plus; back = plus_undoes_minus }
