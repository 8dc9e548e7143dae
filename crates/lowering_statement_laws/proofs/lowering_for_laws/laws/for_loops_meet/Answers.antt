use Rattle.lowering_statement_laws.proofs.LoweringForLaws.ForLoops.{for_loops_meet}
use Rattle.lowering_statement_laws.proofs.lowering_for_laws.laws.for_loops_meet.Goals as goal

pub returns : goal.returns
returns g = for_loops_meet
