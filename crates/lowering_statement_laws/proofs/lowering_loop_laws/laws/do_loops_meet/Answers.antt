use Rattle.lowering_statement_laws.proofs.LoweringLoopLaws.DoLoops.{do_loops_meet}
use Rattle.lowering_statement_laws.proofs.lowering_loop_laws.laws.do_loops_meet.Goals as goal

pub returns : goal.returns
returns g = do_loops_meet
