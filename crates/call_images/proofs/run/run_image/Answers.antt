use Rattle.std.proofs.Common.{inr, sym, ap, ◌∙◌}
use Rattle.alpha_run.specs.Run.{BehavesOn}
use Rattle.bk_io.specs.Outside.{Traffic, traffic_of}
use Rattle.bk_io.proofs.Inputs.{on_same}
use Rattle.call_images.specs.RunImage.{RunsImageOn}
use Rattle.call_outcomes.specs.Output.{input_faults_after, output_faults_after}
use Rattle.call_images.proofs.RunImages.{no_file, input_count, output_count}
use Rattle.call_images.proofs.run.run_image.Goals as goal

pub returns-in-Ok-clause-answer : goal.returns-in-Ok-clause-answer
returns-in-Ok-clause-answer g c =
    let told : Traffic = traffic_of g.I.Source.left g.I.Source.made g.O.Sink.taken c.args.input.now c.args.out.now in
    let after : Traffic = traffic_of g.I.Source.left g.I.Source.made g.O.Sink.taken c.run.new.input c.run.new.out in
    inr (
      c.run.result,
      c.outcome_of.ensures,
      on_same told.left after.left
          (BehavesOn c.args.limits.budget c.run.result c.in-Ok.machine told after)
          (RunsImageOn c.args.limits c.args.image.now c.run.result told after)
          (λ input rest behaves. behaves c.args.image.now c.args.limits.stack c.in-Ok.ensures.first_snapshot) c.run.ensures.behaves,
    )

pub returns-in-Ok-clause-no_file : goal.returns-in-Ok-clause-no_file
returns-in-Ok-clause-no_file g c h = no_file c.args.limits.budget c.run.result (sym c.outcome_of.ensures ∙ h)

pub returns-in-Ok-clause-input_count : goal.returns-in-Ok-clause-input_count
returns-in-Ok-clause-input_count g c = c.run.ensures.input_count ∙ input_count c.args.limits.budget c.run.result _ ∙ ap (λ o. input_faults_after o (g.I.Source.faults c.args.input.now)) (sym c.outcome_of.ensures)

pub returns-in-Ok-clause-output_count : goal.returns-in-Ok-clause-output_count
returns-in-Ok-clause-output_count g c = c.run.ensures.output_count ∙ output_count c.args.limits.budget c.run.result _ ∙ ap (λ o. output_faults_after o (g.O.Sink.faults c.args.out.now)) (sym c.outcome_of.ensures)
