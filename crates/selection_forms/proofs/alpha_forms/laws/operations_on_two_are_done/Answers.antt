use Rattle.selection_forms.proofs.AlphaForms.Done.{sums_done, differences_done, products_done, conjunctions_done, disjunctions_done, exclusive_disjunctions_done}
use Rattle.selection_forms.proofs.alpha_forms.laws.operations_on_two_are_done.Goals as goal

pub returns-clause-sums : goal.returns-clause-sums
returns-clause-sums c = sums_done

pub returns-clause-differences : goal.returns-clause-differences
returns-clause-differences c = differences_done

pub returns-clause-products : goal.returns-clause-products
returns-clause-products c = products_done

pub returns-clause-conjunctions : goal.returns-clause-conjunctions
returns-clause-conjunctions c = conjunctions_done

pub returns-clause-disjunctions : goal.returns-clause-disjunctions
returns-clause-disjunctions c = disjunctions_done

pub returns-clause-exclusive : goal.returns-clause-exclusive
returns-clause-exclusive c = exclusive_disjunctions_done
