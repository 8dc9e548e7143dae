use Rattle.std.proofs.Common.{length, ap, arith}
use Rattle.mem_model.proofs.Representation.{length-cells_kept}
use Rattle.mem_model.proofs.cells.Cells.set.Goals as goal

pub put_cell-requires-clause-within : goal.put_cell-requires-clause-within
put_cell-requires-clause-within c = omega (arith, length-cells_kept c.self.inside.marks.items c.self.inside.pointers, ap length c.self.view_is)

pub put_cell-requires-clause-room : goal.put_cell-requires-clause-room
put_cell-requires-clause-room c = omega (arith, length-cells_kept c.self.inside.marks.items c.self.inside.pointers, ap length c.self.view_is, c.self.invariant)
