use Rattle.c_typing_faults.proofs.First.{some}
use Rattle.c_typing_units.specs.Units.{whole_unit}
use Rattle.c_types.proofs.CUnitMeaningLaws.Functions.{unit_named, unit_main}
use Rattle.c_types.proofs.c_unit_meaning_laws.laws.functions_are_named.Goals as goal

pub returns-clause-named : goal.returns-clause-named
returns-clause-named c = λ unit e. unit_named unit (some (whole_unit unit).1.1.1.faults e)

pub returns-clause-main : goal.returns-clause-main
returns-clause-main c = λ unit e. unit_main unit (some (whole_unit unit).1.1.1.faults e)
