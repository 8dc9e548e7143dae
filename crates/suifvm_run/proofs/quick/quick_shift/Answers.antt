-- The answer is the word.
use Rattle.std.proofs.Common.{sym, ◌∙◌}
use Rattle.suifvm_meaning.specs.Operations.{shift_answer}
use Rattle.suifvm_run.proofs.AtOnce.{gave_two}
use Rattle.suifvm_run.proofs.quick.quick_shift.Goals as goal

pub returns : goal.returns
returns c = record {
  done = gave_two c.args.machine.now c.put_word.new.machine c.put_word.result (shift_answer c.args.op c.args.ty) c.args.destination c.in-Some-given_word.word _ _ _ _ c.in-Some.ensures c.in-Some-word.ensures (sym c.shift.ensures ∙ c.in-Some-given_word.ensures) c.put_word.ensures.done;
  kept = c.put_word.ensures.kept;
}
