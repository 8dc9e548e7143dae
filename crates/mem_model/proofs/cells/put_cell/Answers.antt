use Rattle.std.proofs.Common.{refl, sym}
use Rattle.mem_model.proofs.Representation.{cells_kept-set}
use Rattle.mem_model.proofs.cells.put_cell.Goals as goal

pub returns-in-Empty-clause-cells : goal.returns-in-Empty-clause-cells
returns-in-Empty-clause-cells c = cells_kept-set _ _ _ _ _ _ c.requires.within (sym c.in-Empty.is) (λ k h ne. refl)

pub returns-in-Byte-clause-cells : goal.returns-in-Byte-clause-cells
returns-in-Byte-clause-cells c = cells_kept-set _ _ _ _ _ _ c.requires.within (sym c.in-Byte.is) (λ k h ne. refl)
