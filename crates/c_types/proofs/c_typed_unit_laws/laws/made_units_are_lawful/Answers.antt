use Rattle.c_typing_faults.proofs.First.{some}
use Rattle.c_types.specs.c_unit_object_laws.Units.{whole_unit}
use Rattle.c_types.proofs.CTypedUnitLaws.Units.{unit_typed}
use Rattle.c_types.proofs.c_typed_unit_laws.laws.made_units_are_lawful.Goals as goal

pub returns : goal.returns
returns c = λ unit typed e made spelled counted. unit_typed unit typed (some (whole_unit unit).1.1.1.faults e) made spelled counted
