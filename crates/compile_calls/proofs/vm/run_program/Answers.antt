use Rattle.std.proofs.Common.{sym, ap, ◌∙◌}
use Rattle.call_outcomes.specs.Output.{input_faults_after, output_faults_after}
use Rattle.compile_calls.proofs.Runs.{no_file, input_count, output_count}
use Rattle.compile_calls.proofs.vm.run_program.Goals as goal

pub returns-clause-answer : goal.returns-clause-answer
returns-clause-answer g c = (c.run_vm.result, c.outcome_of.ensures, c.run_vm.ensures.run)

pub returns-clause-no_file : goal.returns-clause-no_file
returns-clause-no_file g c h = no_file c.args.turns c.run_vm.result (sym c.outcome_of.ensures ∙ h)

pub returns-clause-input_count : goal.returns-clause-input_count
returns-clause-input_count g c = c.run_vm.ensures.input_count ∙ input_count c.args.turns c.run_vm.result _ ∙ ap (λ o. input_faults_after o (g.I.Source.faults c.args.input.now)) (sym c.outcome_of.ensures)

pub returns-clause-output_count : goal.returns-clause-output_count
returns-clause-output_count g c = c.run_vm.ensures.output_count ∙ output_count c.args.turns c.run_vm.result _ ∙ ap (λ o. output_faults_after o (g.O.Sink.faults c.args.out.now)) (sym c.outcome_of.ensures)
