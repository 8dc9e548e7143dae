use Rattle.compiler.proofs.KeptCode.{kept_code_does_as_unit}
use Rattle.compiler.proofs.laws.kept_code_does_as_unit.Goals as goal

pub returns : goal.returns
returns c = kept_code_does_as_unit c.one_ending.ensures
