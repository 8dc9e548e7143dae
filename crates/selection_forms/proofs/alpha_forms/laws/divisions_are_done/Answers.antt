use Rattle.selection_forms.proofs.AlphaForms.Dividing.{quotients_done, remainders_done}
use Rattle.selection_forms.proofs.alpha_forms.laws.divisions_are_done.Goals as goal

pub returns-clause-quotients : goal.returns-clause-quotients
returns-clause-quotients c = quotients_done

pub returns-clause-remainders : goal.returns-clause-remainders
returns-clause-remainders c = remainders_done
