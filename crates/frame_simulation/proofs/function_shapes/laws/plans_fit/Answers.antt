use Rattle.frame_simulation.proofs.FunctionShapes.Fits.{plans_fit}
use Rattle.frame_simulation.proofs.function_shapes.laws.plans_fit.Goals as goal

pub returns : goal.returns
returns c = plans_fit
