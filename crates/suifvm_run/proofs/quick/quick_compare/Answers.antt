-- The answer is the word.
use Rattle.suifvm_meaning.specs.Operations.{compare_answer}
use Rattle.suifvm_run.proofs.AtOnce.{gave_two}
use Rattle.suifvm_run.proofs.quick.quick_compare.Goals as goal

pub returns : goal.returns
returns c = record {
  done = gave_two c.args.machine.now c.put_word.new.machine c.put_word.result (compare_answer c.args.machine.now.memory c.args.op c.args.ty) c.args.destination c.in-Some-compare_word.word _ _ _ _ c.in-Some.ensures c.in-Some-word.ensures (c.in-Some-compare_word.ensures c.args.machine.now.memory) c.put_word.ensures.done;
  kept = c.put_word.ensures.kept;
}
