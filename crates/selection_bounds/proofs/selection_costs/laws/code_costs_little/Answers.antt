use Rattle.selection_bounds.proofs.SelectionCosts.Costs.{costs_little}
use Rattle.selection_bounds.proofs.selection_costs.laws.code_costs_little.Goals as goal

pub returns : goal.returns
returns c = costs_little
