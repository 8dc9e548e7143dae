-- One turn of the loop.
use Rattle.c_typing_weight.proofs.Weights.{greatest_more}
use Rattle.c_typing_weight.proofs.units.greatest_locals.Goals as goal

pub loop-function-preserved : goal.loop-function-preserved
loop-function-preserved c = greatest_more _ _ _ _ _ _ _ _ c.loop-function-test.true c.function-item.is c.loop-function.invariant c.locals_bytes.ensures c.max-greatest.ensures
