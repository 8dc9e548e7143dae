use Rattle.call_outcomes.proofs.Fronts.{first_fails, then_second}
use Rattle.call_outcomes.proofs.output.put_both.Goals as goal

pub returns-in-Err-clause-taken : goal.returns-in-Err-clause-taken
returns-in-Err-clause-taken g c = first_fails c.args.first.now c.args.second.now _ _ c.in-Err.ensures.taken

pub returns-in-Ok-clause-taken : goal.returns-in-Ok-clause-taken
returns-in-Ok-clause-taken g c = then_second _ c.args.first.now c.args.second.now _ _ _ c.in-Ok.ensures.taken c.put_slice-in-Ok.ensures.taken
