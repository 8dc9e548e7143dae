use Rattle.compile_call_laws.proofs.Units.{not_refused}
use Rattle.compile_call_laws.proofs.Runs.{runs}
use Rattle.compile_call_laws.proofs.laws.run_does_what_the_text_means.Goals as goal

pub returns : goal.returns
returns c = runs c.one_tree.ensures (not_refused c.one_tree.ensures c.read_or_refused.ensures)
