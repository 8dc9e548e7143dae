use Rattle.selection_forms.proofs.AlphaForms.Moving.{arithmetic_shifts_done, left_shifts_done, logical_shifts_done}
use Rattle.selection_forms.proofs.alpha_forms.laws.shifts_are_done.Goals as goal

pub returns-clause-arithmetic : goal.returns-clause-arithmetic
returns-clause-arithmetic c = arithmetic_shifts_done

pub returns-clause-left : goal.returns-clause-left
returns-clause-left c = left_shifts_done

pub returns-clause-logical : goal.returns-clause-logical
returns-clause-logical c = logical_shifts_done
