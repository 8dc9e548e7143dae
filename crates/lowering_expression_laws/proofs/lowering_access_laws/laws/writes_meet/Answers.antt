use Rattle.lowering_expression_laws.proofs.LoweringAccessLaws.Writes.{writes_meet}
use Rattle.lowering_expression_laws.proofs.lowering_access_laws.laws.writes_meet.Goals as goal

pub returns : goal.returns
returns g = writes_meet
