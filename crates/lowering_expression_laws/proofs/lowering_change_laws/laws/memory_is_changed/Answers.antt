use Rattle.lowering_expression_laws.proofs.LoweringChangeLaws.Changes.{memory_is_changed}
use Rattle.lowering_expression_laws.proofs.lowering_change_laws.laws.memory_is_changed.Goals as goal

pub returns : goal.returns
returns g = memory_is_changed
