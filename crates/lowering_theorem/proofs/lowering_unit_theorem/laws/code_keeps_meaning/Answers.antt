use Rattle.lowering_theorem.proofs.LoweringUnitTheorem.Units.{code_keeps_meaning}
use Rattle.lowering_theorem.proofs.lowering_unit_theorem.laws.code_keeps_meaning.Goals as goal

pub returns : goal.returns
returns g = code_keeps_meaning
