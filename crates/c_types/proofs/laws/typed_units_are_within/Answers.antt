use Rattle.c_types.proofs.Heights.{typed_within}
use Rattle.c_types.proofs.laws.typed_units_are_within.Goals as goal

pub returns : goal.returns
returns c = typed_within
