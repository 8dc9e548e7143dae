-- The answer is the word.
use Rattle.std.proofs.Common.{sym, ◌∙◌}
use Rattle.suifvm_run.proofs.AtOnce.{gave_constant}
use Rattle.suifvm_run.proofs.quick.quick_constant.Goals as goal

pub returns : goal.returns
returns c = record {
  done = gave_constant c.args.machine.now c.put_word.new.machine c.put_word.result _ c.args.destination c.in-Some.word (sym c.when_value.ensures ∙ c.in-Some.ensures) c.put_word.ensures.done;
  kept = c.put_word.ensures.kept;
}
