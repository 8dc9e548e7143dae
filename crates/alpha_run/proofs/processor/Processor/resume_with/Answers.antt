-- What was taken is the first of the input.
use Rattle.std.proofs.Common.{drop, ◌∙◌}
use Rattle.alpha_run.proofs.Turns.{taken_goes}
use Rattle.alpha_run.proofs.processor.Processor.resume_with.Goals as goal

pub returns-clause-step : goal.returns-clause-step
returns-clause-step c x y b = c.give.ensures.step (drop 1 x) y ∙ taken_goes c.args.self.now x y c.args.byte c.word_taken.result c.word_taken.ensures b
