use Rattle.selection_forms.proofs.AlphaForms.Done.{moves_done, negations_done, complements_done, conversions_done}
use Rattle.selection_forms.proofs.alpha_forms.laws.operations_on_one_are_done.Goals as goal

pub returns-clause-moves : goal.returns-clause-moves
returns-clause-moves c = moves_done

pub returns-clause-negations : goal.returns-clause-negations
returns-clause-negations c = negations_done

pub returns-clause-complements : goal.returns-clause-complements
returns-clause-complements c = complements_done

pub returns-clause-conversions : goal.returns-clause-conversions
returns-clause-conversions c = conversions_done
