use Rattle.mem_model.proofs.Endings.{turns_are_taken}
use Rattle.mem_model.proofs.laws.turns_are_taken.Goals as goal

pub returns : goal.returns
returns c = turns_are_taken
