-- Each turn adds a step to the run, and the one that stops it stops the whole run.
use Rattle.std.proofs.Common.{◌≡◌, ◌+◌, ◌≤◌, option_map, refl, sym, ap, ◌∙◌, arith}
use Rattle.bk_io.specs.Outside.{Traffic, traffic_of}
use Rattle.bk_io.proofs.Inputs.{on_nothing, on_both, on_same}
use Rattle.alpha_run.specs.declared.ending.Ending.TheVariants.{Budget}
use Rattle.alpha_run.specs.Ending.{halt_is}
use Rattle.alpha_run.specs.Run.{RunsOn, BehavesOn}
use Rattle.alpha_run.specs.model.MachineTurns.{TurnsOn}
use Rattle.alpha_run.proofs.Runs.{ran_none, on_more, on_longer, on_whole, on_behaving, on_ended}
use Rattle.alpha_run.proofs.machine.Machine.run.Goals as goal

pub returns-in-Some-clause-run : goal.returns-in-Some-clause-run
returns-in-Some-clause-run g c =
    let told : Traffic = traffic_of g.I.Source.left g.I.Source.made g.O.Sink.taken c.args.input.now c.args.out.now in
    on_nothing told.left (RunsOn c.args.budget c.ending.result c.args.self.now c.args.self.now told told)
    (λ rest may. on_ended c.args.budget c.ending.result (halt_is c.in-Some.halt) c.args.self.now c.args.self.now told told (ap (λ u. u.halt) (sym c.self.view_is) ∙ ap (option_map halt_is) c.in-Some.is) rest)

pub loop-done-init : goal.loop-done-init
loop-done-init g c =
    let none = ap (λ u. u.halt) (sym c.self.view_is) ∙ ap (option_map halt_is) c.in_default.is in
    record {
      run = on_nothing (g.I.Source.left c.args.input.now) (RunsOn 0 Budget c.args.self.now c.args.self.now _ _) (λ bytes may p is _. ran_none p bytes c.args.self.now _ none);
      running = none;
      program = λ p r. r;
      input_count = refl;
      output_count = refl;
    }

pub returns-in-Some-turn-clause-run : goal.returns-in-Some-turn-clause-run
returns-in-Some-turn-clause-run g c =
    let within : c.loop-done._done + 1 ≤ c.args.budget = omega (arith, c.loop-done-test.true) in
    let told : Traffic = traffic_of g.I.Source.left g.I.Source.made g.O.Sink.taken c.args.input.now c.args.out.now in
    let between : Traffic = traffic_of g.I.Source.left g.I.Source.made g.O.Sink.taken c.loop-done.input c.loop-done.out in
    let after : Traffic = traffic_of g.I.Source.left g.I.Source.made g.O.Sink.taken c.turn.new.input c.turn.new.out in
    on_both told.left between.left after.left
    (RunsOn c.loop-done._done Budget c.args.self.now c.loop-done.self told between)
    (TurnsOn c.in-Some-turn.ending c.loop-done.self c.turn.new.self between after)
    (RunsOn c.args.budget c.in-Some-turn.ending c.args.self.now c.turn.new.self told after)
    (λ input more rest first turn. on_longer (c.loop-done._done + 1) c.args.budget c.in-Some-turn.ending c.args.self.now c.turn.new.self told after within c.in-Some-turn.ensures.early input rest
    (on_more c.loop-done._done c.in-Some-turn.ending c.args.self.now c.loop-done.self c.turn.new.self told between after c.loop-done.invariant.program input more rest first turn))
    c.loop-done.invariant.run c.in-Some-turn.ensures.run

pub loop-done-preserved : goal.loop-done-preserved
loop-done-preserved g c =
    let told : Traffic = traffic_of g.I.Source.left g.I.Source.made g.O.Sink.taken c.args.input.now c.args.out.now in
    let between : Traffic = traffic_of g.I.Source.left g.I.Source.made g.O.Sink.taken c.loop-done.input c.loop-done.out in
    let after : Traffic = traffic_of g.I.Source.left g.I.Source.made g.O.Sink.taken c.turn.new.input c.turn.new.out in
    record {
      run = on_both told.left between.left after.left
          (RunsOn c.loop-done._done Budget c.args.self.now c.loop-done.self told between)
          (TurnsOn Budget c.loop-done.self c.turn.new.self between after)
          (RunsOn (c.loop-done._done + 1) Budget c.args.self.now c.turn.new.self told after)
          (on_more c.loop-done._done Budget c.args.self.now c.loop-done.self c.turn.new.self told between after c.loop-done.invariant.program)
          c.loop-done.invariant.run c.in_default-turn.ensures.run;
      running = c.in_default-turn.ensures.halt c.loop-done.invariant.running;
      program = λ p r. c.in_default-turn.ensures.program p (c.loop-done.invariant.program p r);
      input_count = c.in_default-turn.ensures.input_count ∙ c.loop-done.invariant.input_count;
      output_count = c.in_default-turn.ensures.output_count ∙ c.loop-done.invariant.output_count;
    }

pub returns-clause-run : goal.returns-clause-run
returns-clause-run g c =
    let told : Traffic = traffic_of g.I.Source.left g.I.Source.made g.O.Sink.taken c.args.input.now c.args.out.now in
    let after : Traffic = traffic_of g.I.Source.left g.I.Source.made g.O.Sink.taken c.loop-done.input c.loop-done.out in
    let whole : c.loop-done._done ≡ c.args.budget = omega (arith, c.loop-done.auto._done-end, c.loop-done-test.false) in
    on_same told.left after.left
    (RunsOn c.loop-done._done Budget c.args.self.now c.loop-done.self told after)
    (RunsOn c.args.budget Budget c.args.self.now c.loop-done.self told after)
    (on_whole c.loop-done._done c.args.budget c.args.self.now c.loop-done.self told after whole)
    c.loop-done.invariant.run

pub returns-in-Some-clause-behaves : goal.returns-in-Some-clause-behaves
returns-in-Some-clause-behaves g c =
    let told : Traffic = traffic_of g.I.Source.left g.I.Source.made g.O.Sink.taken c.args.input.now c.args.out.now in
    on_same told.left told.left
    (RunsOn c.args.budget c.ending.result c.args.self.now c.args.self.now told told)
    (BehavesOn c.args.budget c.ending.result c.args.self.now told told)
    (on_behaving c.args.budget c.ending.result c.args.self.now c.args.self.now told told)
    (returns-in-Some-clause-run g c)

pub returns-in-Some-turn-clause-behaves : goal.returns-in-Some-turn-clause-behaves
returns-in-Some-turn-clause-behaves g c =
    let told : Traffic = traffic_of g.I.Source.left g.I.Source.made g.O.Sink.taken c.args.input.now c.args.out.now in
    let after : Traffic = traffic_of g.I.Source.left g.I.Source.made g.O.Sink.taken c.turn.new.input c.turn.new.out in
    on_same told.left after.left
    (RunsOn c.args.budget c.in-Some-turn.ending c.args.self.now c.turn.new.self told after)
    (BehavesOn c.args.budget c.in-Some-turn.ending c.args.self.now told after)
    (on_behaving c.args.budget c.in-Some-turn.ending c.args.self.now c.turn.new.self told after)
    (returns-in-Some-turn-clause-run g c)

pub returns-clause-behaves : goal.returns-clause-behaves
returns-clause-behaves g c =
    let told : Traffic = traffic_of g.I.Source.left g.I.Source.made g.O.Sink.taken c.args.input.now c.args.out.now in
    let after : Traffic = traffic_of g.I.Source.left g.I.Source.made g.O.Sink.taken c.loop-done.input c.loop-done.out in
    on_same told.left after.left
    (RunsOn c.args.budget Budget c.args.self.now c.loop-done.self told after)
    (BehavesOn c.args.budget Budget c.args.self.now told after)
    (on_behaving c.args.budget Budget c.args.self.now c.loop-done.self told after)
    (returns-clause-run g c)
