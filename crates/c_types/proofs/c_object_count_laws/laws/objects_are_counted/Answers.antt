use Rattle.c_typing_faults.proofs.First.{some}
use Rattle.c_types.specs.c_found_unit_laws.Units.{whole_unit}
use Rattle.c_types.proofs.CObjectCountLaws.Units.{objects_counted}
use Rattle.c_types.proofs.c_object_count_laws.laws.objects_are_counted.Goals as goal

pub returns : goal.returns
returns c = λ unit e. objects_counted unit (some (whole_unit unit).1.1.1.faults e)
