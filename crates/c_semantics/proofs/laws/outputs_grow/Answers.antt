use Rattle.c_semantics.proofs.Behaviours.{outputs_grow}
use Rattle.c_semantics.proofs.laws.outputs_grow.Goals as goal

pub returns : goal.returns
returns g = outputs_grow
