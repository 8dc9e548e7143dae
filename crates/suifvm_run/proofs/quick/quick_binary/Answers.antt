-- The answer is the word.
use Rattle.suifvm_meaning.specs.Operations.{binary_answer}
use Rattle.suifvm_run.proofs.AtOnce.{gave_two}
use Rattle.suifvm_run.proofs.quick.quick_binary.Goals as goal

pub returns : goal.returns
returns c = record {
  done = gave_two c.args.machine.now c.put_word.new.machine c.put_word.result (binary_answer c.args.machine.now.memory c.args.op c.args.ty) c.args.destination c.in-Some-binary_word.word _ _ _ _ c.in-Some.ensures c.in-Some-word.ensures (c.in-Some-binary_word.ensures c.args.machine.now.memory) c.put_word.ensures.done;
  kept = c.put_word.ensures.kept;
}
