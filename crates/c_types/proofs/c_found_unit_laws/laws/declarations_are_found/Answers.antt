use Rattle.c_types.proofs.CFoundUnitLaws.Bodies.{declared_tells}
use Rattle.c_types.proofs.c_found_unit_laws.laws.declarations_are_found.Goals as goal

pub returns : goal.returns
returns c = declared_tells
