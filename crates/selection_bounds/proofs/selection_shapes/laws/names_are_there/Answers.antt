use Rattle.selection_bounds.proofs.SelectionShapes.Named.{names_there}
use Rattle.selection_bounds.proofs.selection_shapes.laws.names_are_there.Goals as goal

pub returns : goal.returns
returns c = names_there
