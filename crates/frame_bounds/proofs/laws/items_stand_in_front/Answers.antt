use Rattle.std.proofs.Common.{[]}
use Rattle.frame_bounds.proofs.Fronts.{function_front}
use Rattle.frame_bounds.proofs.laws.items_stand_in_front.Goals as goal

pub returns : goal.returns
returns c = λ a g number rest. function_front a g number [] rest
