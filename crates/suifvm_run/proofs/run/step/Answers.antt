-- A step that is done at once leads the run on.
use Rattle.std.proofs.Common.{[], refl}
use Rattle.bk_io.proofs.Inputs.{gives_nothing}
use Rattle.suifvm_run.proofs.Progress.{goes_on}
use Rattle.suifvm_run.proofs.Ends.{goes_falls}
use Rattle.suifvm_run.proofs.run.step.Goals as goal

pub returns-then-quick_step-clause-follows : goal.returns-then-quick_step-clause-follows
returns-then-quick_step-clause-follows g c = record {
  goes = record {
    sound = c.if-quick_step.ensures.done.sound refl;
    program = c.if-quick_step.ensures.done.program refl;
    falls = goes_falls c.args.machine.now c.quick_step.new.machine c.requires.marked c.if-quick_step.ensures.done;
  };
  run = ([], gives_nothing _, λ rest may rooms start told at. goes_on rooms start c.args.turns rest rest told c.args.machine.now c.quick_step.new.machine _ c.if-quick_step.ensures.done at);
}
