use Rattle.c_types.proofs.CUnitWalkLaws.Shapes.{declared_shape}
use Rattle.c_types.proofs.c_unit_walk_laws.laws.declared_types_are_shaped.Goals as goal

pub returns : goal.returns
returns c = declared_shape
