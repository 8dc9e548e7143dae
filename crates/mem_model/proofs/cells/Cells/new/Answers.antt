use Rattle.std.proofs.Common.{arith}
use Rattle.std.proofs.lemmas.Grind.{common_steps}
use Rattle.mem_model.proofs.Representation.{cells_kept-fresh}
use Rattle.mem_model.proofs.cells.Cells.new.Goals as goal

pub returns : goal.returns
returns c = cells_kept-fresh _ _ _ (grind (arith, common_steps, c.resize.ensures.items))
