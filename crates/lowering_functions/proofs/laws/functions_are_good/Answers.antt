-- Parameters, then the body.
use Rattle.std.proofs.Common.{refl, arith}
use Rattle.lowering_functions.proofs.Bodies.{function_emits}
use Rattle.lowering_functions.proofs.laws.functions_are_good.Goals as goal

pub returns-clause-good : goal.returns-clause-good
returns-clause-good c most ds f few h = (function_emits most ds f few (omega (arith, h))).good 0 refl

pub returns-clause-size : goal.returns-clause-size
returns-clause-size c most ds f few h = omega (arith, (function_emits most ds f few (omega (arith, h))).size)
