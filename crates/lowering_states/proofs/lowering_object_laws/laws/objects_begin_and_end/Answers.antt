use Rattle.lowering_states.proofs.LoweringObjectLaws.Objects.{objects_begin_and_end}
use Rattle.lowering_states.proofs.lowering_object_laws.laws.objects_begin_and_end.Goals as goal

pub returns : goal.returns
returns g = objects_begin_and_end
