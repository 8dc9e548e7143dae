-- The answer is the word.
use Rattle.std.proofs.Common.{sym, ◌∙◌}
use Rattle.suifvm_meaning.specs.Operations.{convert_answer}
use Rattle.suifvm_run.proofs.AtOnce.{gave_one}
use Rattle.suifvm_run.proofs.quick.quick_convert.Goals as goal

pub returns : goal.returns
returns c = record {
  done = gave_one c.args.machine.now c.put_word.new.machine c.put_word.result (convert_answer c.args.from c.args.to) c.args.destination c.in-Some-given_word.word _ _ c.in-Some.ensures (sym c.convert.ensures ∙ c.in-Some-given_word.ensures) c.put_word.ensures.done;
  kept = c.put_word.ensures.kept;
}
