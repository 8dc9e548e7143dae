use Rattle.selection_forms.proofs.AlphaForms.Reading.{loads_done}
use Rattle.selection_forms.proofs.AlphaForms.Storing.{stores_done}
use Rattle.selection_forms.proofs.alpha_forms.laws.accesses_are_done.Goals as goal

pub returns-clause-loads : goal.returns-clause-loads
returns-clause-loads c = loads_done

pub returns-clause-stores : goal.returns-clause-stores
returns-clause-stores c = stores_done
