use Rattle.c_typing_faults.proofs.First.{some}
use Rattle.c_typing_units.specs.Units.{whole_unit}
use Rattle.c_types.proofs.CFoundUnitLaws.Units.{unit_steps, functions_kept}
use Rattle.c_types.proofs.c_found_unit_laws.laws.functions_are_kept.Goals as goal

pub returns-clause-steps : goal.returns-clause-steps
returns-clause-steps c = λ unit e. (unit_steps unit (some (whole_unit unit).1.1.1.faults e)).0

pub returns-clause-kept : goal.returns-clause-kept
returns-clause-kept c = λ unit e. functions_kept unit (some (whole_unit unit).1.1.1.faults e)
