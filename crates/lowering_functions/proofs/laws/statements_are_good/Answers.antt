-- By all forms.
use Rattle.std.proofs.Common.{arith}
use Rattle.lowering_functions.proofs.Bodies.{stmt_emits}
use Rattle.lowering_functions.proofs.laws.statements_are_good.Goals as goal

pub returns-clause-good : goal.returns-clause-good
returns-clause-good c most locals brk con loops ds ls s rest same b n h good = (stmt_emits most locals ds ls same brk con s rest b n (omega (arith, h))).good loops good

pub returns-clause-size : goal.returns-clause-size
returns-clause-size c most locals brk con ds ls s rest same b n h = (stmt_emits most locals ds ls same brk con s rest b n (omega (arith, h))).size
