use Rattle.std.proofs.Common.{length, ap, arith}
use Rattle.mem_model.proofs.Representation.{length-cells_kept}
use Rattle.mem_model.proofs.cells.Cells.len.Goals as goal

pub returns : goal.returns
returns c = omega (arith, length-cells_kept c.self.inside.marks.items c.self.inside.pointers, ap length c.self.view_is)
