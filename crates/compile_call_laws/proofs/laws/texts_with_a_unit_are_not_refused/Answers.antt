use Rattle.compile_call_laws.proofs.Units.{not_refused}
use Rattle.compile_call_laws.proofs.laws.texts_with_a_unit_are_not_refused.Goals as goal

pub returns : goal.returns
returns c = not_refused c.one_tree.ensures c.read_or_refused.ensures
