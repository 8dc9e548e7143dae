-- Each turn adds to the run, and the one that stops it stops the whole run.
use Rattle.std.proofs.Common.{Some, None, refl, sym, ◌∙◌, subst}
use Rattle.bk_io.specs.Outside.{Traffic, traffic_of}
use Rattle.bk_io.proofs.Inputs.{on_nothing, on_both}
use Rattle.suifvm_run.specs.model.Falls.{AreMarked}
use Rattle.suifvm_run.specs.model.Progress.{LeadsOn}
use Rattle.suifvm_machine.specs.Tables.{program_code}
use Rattle.suifvm_run.proofs.Progress.{leads_through}
use Rattle.suifvm_run.proofs.run.run_machine.Goals as goal

pub loop-ending-init : goal.loop-ending-init
loop-ending-init g c =
    let told : Traffic = traffic_of g.I.Source.left g.I.Source.made g.O.Sink.taken c.args.input.now c.args.out.now in
    record {
      sound = c.requires.sound;
      marked = c.requires.marked;
      program = refl;
      run = on_nothing told.left (LeadsOn c.args.machine.now c.args.machine.now c.args.turns told told None) (λ rest may rooms start before at. at);
      input_count = refl;
      output_count = refl;
    }

pub returns-in-Some-clause-run : goal.returns-in-Some-clause-run
returns-in-Some-clause-run g c =
    let told : Traffic = traffic_of g.I.Source.left g.I.Source.made g.O.Sink.taken c.args.input.now c.args.out.now in
    let between : Traffic = traffic_of g.I.Source.left g.I.Source.made g.O.Sink.taken c.loop-ending.input c.loop-ending.out in
    let after : Traffic = traffic_of g.I.Source.left g.I.Source.made g.O.Sink.taken c.step.new.input c.step.new.out in
    on_both told.left between.left after.left
    (LeadsOn c.args.machine.now c.loop-ending.machine c.args.turns told between None)
    (LeadsOn c.loop-ending.machine c.step.new.machine c.args.turns between after (Some c.in-Some.ending))
    (LeadsOn c.args.machine.now c.step.new.machine c.args.turns told after (Some c.in-Some.ending))
    (leads_through c.args.machine.now c.loop-ending.machine c.step.new.machine c.args.turns told between after (Some c.in-Some.ending) c.loop-ending.invariant.program)
    c.loop-ending.invariant.run c.in-Some.ensures.follows.run

pub loop-ending-preserved : goal.loop-ending-preserved
loop-ending-preserved g c =
    let told : Traffic = traffic_of g.I.Source.left g.I.Source.made g.O.Sink.taken c.args.input.now c.args.out.now in
    let between : Traffic = traffic_of g.I.Source.left g.I.Source.made g.O.Sink.taken c.loop-ending.input c.loop-ending.out in
    let after : Traffic = traffic_of g.I.Source.left g.I.Source.made g.O.Sink.taken c.step.new.input c.step.new.out in
    record {
      sound = c.in_default.ensures.follows.goes.sound;
      marked = subst (λ p. AreMarked (program_code p)) (sym c.in_default.ensures.follows.goes.program) c.loop-ending.invariant.marked;
      program = c.in_default.ensures.follows.goes.program ∙ c.loop-ending.invariant.program;
      run = on_both told.left between.left after.left
          (LeadsOn c.args.machine.now c.loop-ending.machine c.args.turns told between None)
          (LeadsOn c.loop-ending.machine c.step.new.machine c.args.turns between after None)
          (LeadsOn c.args.machine.now c.step.new.machine c.args.turns told after None)
          (leads_through c.args.machine.now c.loop-ending.machine c.step.new.machine c.args.turns told between after None c.loop-ending.invariant.program)
          c.loop-ending.invariant.run c.in_default.ensures.follows.run;
      input_count = c.in_default.ensures.input_count ∙ c.loop-ending.invariant.input_count;
      output_count = c.in_default.ensures.output_count ∙ c.loop-ending.invariant.output_count;
    }
