use Rattle.lowering_statement_laws.proofs.LoweringStatementTheorem.Statements.{bodies_meet}
use Rattle.lowering_statement_laws.proofs.lowering_statement_theorem.laws.bodies_meet.Goals as goal

pub returns : goal.returns
returns g = bodies_meet
