use Rattle.selection_forms.proofs.AlphaCopies.Copying.{copies_done, copies_short}
use Rattle.selection_forms.proofs.alpha_copies.laws.copies_are_done.Goals as goal

pub returns-clause-done : goal.returns-clause-done
returns-clause-done c = copies_done

pub returns-clause-short : goal.returns-clause-short
returns-clause-short c = copies_short
