use Rattle.mem_model.proofs.EntryLists.{no_objects}
use Rattle.mem_model.proofs.memory.Mem.new.Goals as goal

pub returns : goal.returns
returns c = no_objects _
