use Rattle.c_types.proofs.CUnitObjectLaws.Objects.{steps_objects}
use Rattle.c_types.proofs.c_unit_object_laws.laws.objects_are_numbered.Goals as goal

pub returns : goal.returns
returns c = λ ds es w v h. steps_objects ds h
