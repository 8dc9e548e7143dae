use Rattle.c_typing_faults.proofs.First.{some}
use Rattle.c_types.specs.c_found_unit_laws.Units.{whole_unit}
use Rattle.c_types.proofs.CUnitWalkLaws.Units.{unit_walk}
use Rattle.c_types.proofs.c_unit_walk_laws.laws.units_are_walked.Goals as goal

pub returns : goal.returns
returns c = λ unit e. unit_walk unit (some (whole_unit unit).1.1.1.faults e)
