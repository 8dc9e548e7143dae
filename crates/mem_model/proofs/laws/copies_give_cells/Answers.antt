use Rattle.mem_model.proofs.Changes.{copy_gives}
use Rattle.mem_model.proofs.LoadsBack.{copy_gives_loads}
use Rattle.mem_model.proofs.laws.copies_give_cells.Goals as goal

pub returns : goal.returns
returns c = record { cells = copy_gives; loads = copy_gives_loads }
