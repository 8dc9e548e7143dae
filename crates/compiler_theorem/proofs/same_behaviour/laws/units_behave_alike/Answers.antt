use Rattle.compiler_theorem.proofs.SameBehaviour.Alike.{behave_alike}
use Rattle.compiler_theorem.proofs.same_behaviour.laws.units_behave_alike.Goals as goal

pub returns : goal.returns
returns c = behave_alike c.units_are_same.ensures
