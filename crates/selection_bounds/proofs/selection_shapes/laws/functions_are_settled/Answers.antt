use Rattle.selection_bounds.proofs.SelectionShapes.Settled.{functions_settled}
use Rattle.selection_bounds.proofs.selection_shapes.laws.functions_are_settled.Goals as goal

pub returns : goal.returns
returns c = functions_settled
