-- By all forms.
use Rattle.lowering_functions.proofs.Forms.{expr_emits}
use Rattle.lowering_functions.proofs.laws.expressions_are_good.Goals as goal

pub returns-clause-good : goal.returns-clause-good
returns-clause-good c most locals depth loops ds ls x rest same h good = (expr_emits most locals ds ls same depth x rest h).good loops good

pub returns-clause-size : goal.returns-clause-size
returns-clause-size c most locals depth ds ls x rest same h = (expr_emits most locals ds ls same depth x rest h).size
