-- The answer is that of the operation.
use Rattle.suifvm_meaning.specs.Operations.{binary_answer}
use Rattle.suifvm_run.proofs.AtOnce.{gave_both_as}
use Rattle.suifvm_run.proofs.quick.quick_pointer.Goals as goal

pub returns : goal.returns
returns c = record {
  done = gave_both_as c.args.machine.now c.put_answer.new.machine c.put_answer.result (binary_answer c.args.machine.now.memory c.args.op c.args.ty) c.args.destination c.binary-answer.result _ _ _ _ c.binary-answer.ensures c.get.ensures c.get-2.ensures c.put_answer.ensures.done;
  kept = c.put_answer.ensures.kept;
}
