-- The value is the address.
use Rattle.std.proofs.Common.{sym, ap}
use Rattle.suifvm_meaning.specs.declared.answer.Answer.TheVariants.{Gives}
use Rattle.suifvm_run.proofs.AtOnce.{gave_value}
use Rattle.suifvm_run.proofs.quick.quick_address.Goals as goal

pub returns-in-Ok : goal.returns-in-Ok
returns-in-Ok c = record {
  done = gave_value c.args.machine.now c.put.new.machine c.put.result _ c.args.destination c.in-Ok.value (ap (λ v. Gives v) (sym c.in-Ok.ensures)) c.put.ensures.done;
  kept = c.put.ensures.kept;
}
