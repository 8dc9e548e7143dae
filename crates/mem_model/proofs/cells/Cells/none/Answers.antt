use Rattle.mem_model.proofs.Representation.{cells_kept-none}
use Rattle.mem_model.proofs.cells.Cells.none.Goals as goal

pub returns : goal.returns
returns c = cells_kept-none _ _ c.new.ensures.items
