use Rattle.mem_model.proofs.Endings.{bytes_are_taken, none_is_taken, memories_are_hidden}
use Rattle.mem_model.proofs.laws.bytes_are_taken.Goals as goal

pub returns : goal.returns
returns c = record { byte = bytes_are_taken; end = none_is_taken; memory = memories_are_hidden }
