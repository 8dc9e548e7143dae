use Rattle.selection_forms.proofs.AlphaForms.Done.{equalities_done, inequalities_done, less_done, at_most_done}
use Rattle.selection_forms.proofs.alpha_forms.laws.comparisons_are_done.Goals as goal

pub returns-clause-equal : goal.returns-clause-equal
returns-clause-equal c = equalities_done

pub returns-clause-unlike : goal.returns-clause-unlike
returns-clause-unlike c = inequalities_done

pub returns-clause-less : goal.returns-clause-less
returns-clause-less c = less_done

pub returns-clause-at_most : goal.returns-clause-at_most
returns-clause-at_most c = at_most_done
