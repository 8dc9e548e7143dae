-- Each turn leads the run on, or ends it.
use Rattle.std.proofs.Common.{[], ◌++◌, refl, ◌∙◌, subst}
use Rattle.bk_io.specs.Outside.{given}
use Rattle.bk_io.proofs.Inputs.{gives_nothing, given_first}
use Rattle.mem_model.specs.declared.value.Value.TheVariants.{Word}
use Rattle.suifvm_ir.specs.Insns.{named_register}
use Rattle.suifvm_machine.specs.Config.{Wrote}
use Rattle.suifvm_run.proofs.Progress.{goes_on, over_as, put_done, put_failed, take_failed, take_done, take_no_memory, no_memory_left, short_there}
use Rattle.suifvm_run.proofs.Ends.{goes_falls, puts_falls, takes_falls}
use Rattle.suifvm_run.proofs.run.slow_step.Goals as goal

pub returns-in-Goes-clause-follows : goal.returns-in-Goes-clause-follows
returns-in-Goes-clause-follows g c = record {
  goes = record {
    sound = c.in-Goes.ensures.sound refl;
    program = c.in-Goes.ensures.program refl;
    falls = goes_falls c.args.machine.now c.step.new.self c.requires.marked c.in-Goes.ensures;
  };
  run = ([], gives_nothing _, λ rest may rooms start told at. goes_on rooms start c.args.turns rest rest told c.args.machine.now c.step.new.self _ c.in-Goes.ensures at);
}

pub returns-in-Over-clause-follows : goal.returns-in-Over-clause-follows
returns-in-Over-clause-follows g c = record {
  goes = tt;
  run = ([], gives_nothing _, λ rest may rooms start told at. over_as rooms start c.args.turns rest rest told c.args.machine.now c.step.new.self _ c.in-Over.stop c.ending_of.result c.ending_of.ensures c.in-Over.ensures at);
}

pub returns-in-Ok-clause-follows : goal.returns-in-Ok-clause-follows
returns-in-Ok-clause-follows g c = record {
  goes = record {
    sound = c.in-Puts.ensures.sound refl;
    program = c.in-Puts.ensures.program refl;
    falls = puts_falls c.args.machine.now c.step.new.self c.requires.marked c.in-Puts.byte c.in-Puts.ensures;
  };
  run = ([], gives_nothing _, λ rest may rooms start told at. put_done rooms start c.args.turns rest rest told c.args.machine.now c.step.new.self _ _ c.in-Puts.byte c.in-Puts.ensures at refl c.in-Ok.ensures.taken);
}

pub returns-in-Err-clause-follows : goal.returns-in-Err-clause-follows
returns-in-Err-clause-follows g c = record {
  goes = tt;
  run = ([], gives_nothing _, λ rest may rooms start told at. put_failed rooms start c.args.turns rest rest told c.args.machine.now c.step.new.self _ _ c.in-Puts.byte c.in-Puts.ensures at refl c.in-Err.ensures.taken);
}

pub returns-in-Err-ask-clause-follows : goal.returns-in-Err-ask-clause-follows
returns-in-Err-ask-clause-follows g c = record {
  goes = tt;
  run = ([], c.in-Err-ask.ensures.gives, λ rest may rooms start told at. take_failed rooms start c.args.turns rest rest told c.args.machine.now c.step.new.self _ _ c.in-Takes.destination c.in-Takes.ensures at c.in-Err-ask.ensures.made c.in-Err-ask.ensures.taken);
}

pub returns-in-Ok-write-clause-follows : goal.returns-in-Ok-write-clause-follows
returns-in-Ok-write-clause-follows g c = record {
  goes = record {
    sound = c.in-Ok-write.ensures.sound;
    program = c.in-Ok-write.ensures.program ∙ c.in-Takes.ensures.program refl;
    falls = takes_falls c.args.machine.now c.step.new.self c.requires.marked c.in-Takes.destination c.in-Ok-ask.byte c.write.new.self c.in-Takes.ensures
        (subst (λ n. Wrote c.step.new.self c.write.new.self (named_register c.in-Takes.destination) (Word n)) c.word_of.ensures c.in-Ok-write.ensures);
  };
  run = (
    given c.in-Ok-ask.byte,
    c.in-Ok-ask.ensures.gives,
    λ rest may rooms start told at.
        let first = given_first c.in-Ok-ask.byte _ _ rest c.in-Ok-ask.ensures.left may in
        take_done rooms start c.args.turns (given c.in-Ok-ask.byte ++ rest) rest told c.args.machine.now c.step.new.self _ _ c.in-Takes.destination c.in-Ok-ask.byte c.write.new.self c.in-Takes.ensures at first.0 first.1
        (subst (λ n. Wrote c.step.new.self c.write.new.self (named_register c.in-Takes.destination) (Word n)) c.word_of.ensures c.in-Ok-write.ensures)
        c.in-Ok-ask.ensures.made c.in-Ok-ask.ensures.taken,
  );
}

pub returns-in-Err-write-clause-follows : goal.returns-in-Err-write-clause-follows
returns-in-Err-write-clause-follows g c = record {
  goes = tt;
  run = (
    given c.in-Ok-ask.byte,
    c.in-Ok-ask.ensures.gives,
    λ rest may rooms start told at.
        take_no_memory rooms start c.args.turns (given c.in-Ok-ask.byte ++ rest) rest told c.args.machine.now c.step.new.self _ _ c.in-Takes.destination c.memory_is_short.ensures c.in-Takes.ensures at
        (given_first c.in-Ok-ask.byte _ _ rest c.in-Ok-ask.ensures.left may).1 c.in-Ok-ask.ensures.made c.in-Ok-ask.ensures.taken,
  );
}

pub returns-in-NoMemory-clause-follows : goal.returns-in-NoMemory-clause-follows
returns-in-NoMemory-clause-follows g c = record {
  goes = tt;
  run = ([], gives_nothing _, λ rest may rooms start told at. no_memory_left rooms c.args.machine.now.program.now start c.args.turns rest told _ c.args.machine.now (short_there rooms start c.args.turns rest rest told c.args.machine.now c.step.new.self c.in-NoMemory.ensures _ at) at);
}
