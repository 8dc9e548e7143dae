use Rattle.selection_bounds.proofs.SelectionShapes.Marks.{marks_kept}
use Rattle.selection_bounds.proofs.selection_shapes.laws.marks_are_kept.Goals as goal

pub returns : goal.returns
returns c = marks_kept
