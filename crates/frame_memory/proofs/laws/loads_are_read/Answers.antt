use Rattle.frame_memory.proofs.Memories.{rows_are_there, loads_are_read}
use Rattle.frame_memory.proofs.laws.loads_are_read.Goals as goal

pub returns : goal.returns
returns c = record { rows = rows_are_there; loads = loads_are_read }
