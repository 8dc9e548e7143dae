use Rattle.selection_forms.proofs.AlphaForms.Others.{constants_loaded, addresses_loaded, branches_taken}
use Rattle.selection_forms.proofs.alpha_forms.laws.others_are_done.Goals as goal

pub returns-clause-constants : goal.returns-clause-constants
returns-clause-constants c = constants_loaded

pub returns-clause-addresses : goal.returns-clause-addresses
returns-clause-addresses c = addresses_loaded

pub returns-clause-branches : goal.returns-clause-branches
returns-clause-branches c = branches_taken
