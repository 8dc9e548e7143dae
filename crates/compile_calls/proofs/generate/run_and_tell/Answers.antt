use Rattle.std.proofs.Common.{◌≡◌, [], length, None, Some, refl, sym, ap, ◌∙◌, rules}
use Rattle.bk_io.specs.Outside.{Traffic}
use Rattle.bk_io.proofs.Inputs.{on_told}
use Rattle.alpha_run.specs.Run.{RunsOn}
use Rattle.call_images.specs.RunImage.{outcome_of_ending}
use Rattle.compile_calls.proofs.GeneratedRuns.{no_fault, summary_is, tells_done, tells_run}
use Rattle.compile_calls.proofs.generate.run_and_tell.Goals as goal

-- what is told of an empty input and of an output that is forgotten
abbrev quiet : Traffic
quiet = record { left = Some []; made = None; taken = None }

pub returns-in-Done-clause-answer : goal.returns-in-Done-clause-answer
returns-in-Done-clause-answer g c bytes is =
    let loaded = c.in-Ok.ensures.first_snapshot in
    let on = on_told (Some []) (Some []) (RunsOn c.args.limits.budget c.run.result c.in-Ok.machine c.run.new.self quiet quiet) [] refl c.run.ensures.run in
    let words : c.len.result ≡ length c.args.image.now.words = search rules in
    tells_done c.args.limits bytes c.args.image.now c.run.result c.in-Done.status on.0 c.in-Ok.machine c.run.new.self quiet quiet c.write_summary.result _ _ _
    loaded (c.in-Ok.ensures.starts []) (on.2 c.args.image.now c.in-Ok.ensures.runs (ap (λ m. m.halt) loaded)) c.in-Done.is
    (λ put steps output. summary_is c.args.limits bytes c.args.image.now put c.args.text c.len.result c.steps.result c.written.result c.in-Done.status is words (c.steps.ensures ∙ steps) (c.written.ensures ∙ output))
    c.write_summary.ensures.answer

pub returns : goal.returns
returns g c =
    let loaded = c.in-Ok.ensures.first_snapshot in
    let on = on_told (Some []) (Some []) (RunsOn c.args.limits.budget c.run.result c.in-Ok.machine c.run.new.self quiet quiet) [] refl c.run.ensures.run in
    let same : c.outcome_of.result ≡ outcome_of_ending c.args.limits.budget c.run.result = c.outcome_of.ensures in
    let no = no_fault c.args.limits.budget c.run.result c.run.ensures.input_count c.run.ensures.output_count in
    record {
      answer = λ bytes is.
          tells_run c.args.limits bytes c.args.image.now c.run.result on.0 c.in-Ok.machine c.run.new.self quiet quiet c.outcome_of.result _
          (c.in-Ok.ensures.starts []) (on.2 c.args.image.now c.in-Ok.ensures.runs (ap (λ m. m.halt) loaded)) c.in_default.not-Done
          c.run.ensures.input_count c.run.ensures.output_count same;
      count = search rules;
      no_file = λ h. no.0 (sym same ∙ h);
      no_input = λ h. no.1 (sym same ∙ h);
      asked = λ h. no.3 (sym same ∙ h);
    }
