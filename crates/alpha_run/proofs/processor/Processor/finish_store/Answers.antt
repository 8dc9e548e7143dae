-- A store that was done goes on.
use Rattle.alpha_run.proofs.processor.Processor.finish_store.Goals as goal

pub returns-then-done-clause-step : goal.returns-then-done-clause-step
returns-then-done-clause-step c x y = rw c.if-done.true (c.advance.ensures.step x y)
