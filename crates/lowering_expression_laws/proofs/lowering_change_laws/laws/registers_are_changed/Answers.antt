use Rattle.lowering_expression_laws.proofs.LoweringChangeLaws.Changes.{registers_are_changed}
use Rattle.lowering_expression_laws.proofs.lowering_change_laws.laws.registers_are_changed.Goals as goal

pub returns : goal.returns
returns g = registers_are_changed
