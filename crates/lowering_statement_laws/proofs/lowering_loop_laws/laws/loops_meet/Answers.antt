use Rattle.lowering_statement_laws.proofs.LoweringLoopLaws.Loops.{loops_meet}
use Rattle.lowering_statement_laws.proofs.lowering_loop_laws.laws.loops_meet.Goals as goal

pub returns : goal.returns
returns g = loops_meet
