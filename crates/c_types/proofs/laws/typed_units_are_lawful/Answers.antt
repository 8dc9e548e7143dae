use Rattle.c_types.proofs.Lawful.{typed_lawful}
use Rattle.c_types.proofs.laws.typed_units_are_lawful.Goals as goal

pub returns : goal.returns
returns c = typed_lawful
