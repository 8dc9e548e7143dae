-- A value is written.
use Rattle.suifvm_run.proofs.AtOnce.{gave_value}
use Rattle.suifvm_run.proofs.quick.put_answer.Goals as goal

pub returns-in-Gives : goal.returns-in-Gives
returns-in-Gives c = record {
  done = gave_value c.args.machine.now c.put.new.machine c.put.result c.args.answer c.args.destination c.in-Gives.value c.in-Gives.is c.put.ensures.done;
  kept = c.put.ensures.kept;
}
