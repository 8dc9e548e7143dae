use Rattle.selection_bounds.proofs.SelectionCosts.Lengths.{code_short}
use Rattle.selection_bounds.proofs.selection_costs.laws.code_is_short.Goals as goal

pub returns : goal.returns
returns c = code_short
