use Rattle.compile_call_laws.proofs.Units.{not_refused}
use Rattle.compile_call_laws.proofs.Vm.{answers}
use Rattle.compile_call_laws.proofs.laws.vm_answers_as_the_text_means.Goals as goal

pub returns : goal.returns
returns c = answers c.one_tree.ensures (not_refused c.one_tree.ensures c.read_or_refused.ensures) c.one_ending.ensures c.runs_go_on.ensures.kept c.behaviours_are_refined.ensures
