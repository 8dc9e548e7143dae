-- By all forms.
use Rattle.lowering_bounds.proofs.Functions.{names_there, top_low, arguments_few, cost_low, size_low}
use Rattle.lowering_bounds.proofs.laws.code_is_within_weight.Goals as goal

pub returns-clause-names : goal.returns-clause-names
returns-clause-names c = names_there

pub returns-clause-registers : goal.returns-clause-registers
returns-clause-registers c = top_low

pub returns-clause-arguments : goal.returns-clause-arguments
returns-clause-arguments c = arguments_few

pub returns-clause-cost : goal.returns-clause-cost
returns-clause-cost c = cost_low

pub returns-clause-size : goal.returns-clause-size
returns-clause-size c = size_low
