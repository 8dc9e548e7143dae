use Rattle.selection_bounds.proofs.SelectionShapes.Registers.{registers_used}
use Rattle.selection_bounds.proofs.selection_shapes.laws.registers_are_used.Goals as goal

pub returns : goal.returns
returns c = registers_used
