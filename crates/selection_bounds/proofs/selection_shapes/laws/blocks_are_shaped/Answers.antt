use Rattle.selection_bounds.proofs.SelectionShapes.Shaped.{blocks_shaped}
use Rattle.selection_bounds.proofs.selection_shapes.laws.blocks_are_shaped.Goals as goal

pub returns : goal.returns
returns c = blocks_shaped
