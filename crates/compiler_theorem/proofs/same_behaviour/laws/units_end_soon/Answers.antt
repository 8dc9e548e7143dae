use Rattle.compiler_theorem.proofs.SameBehaviour.Alike.{end_soon}
use Rattle.compiler_theorem.proofs.same_behaviour.laws.units_end_soon.Goals as goal

pub returns : goal.returns
returns c = end_soon c.units_are_same.ensures
