use Rattle.c_types.proofs.CUnitStructLaws.Units.{externals_lead, unit_declared}
use Rattle.c_types.proofs.c_unit_struct_laws.laws.structs_of_units_are_lawful.Goals as goal

pub returns-clause-declarations : goal.returns-clause-declarations
returns-clause-declarations c = externals_lead

pub returns-clause-units : goal.returns-clause-units
returns-clause-units c = unit_declared
