use Rattle.image_theorem.proofs.SameRuns.Same.{runs_are_same}
use Rattle.image_theorem.proofs.same_runs.laws.runs_are_same.Goals as goal

pub returns : goal.returns
returns c = runs_are_same
