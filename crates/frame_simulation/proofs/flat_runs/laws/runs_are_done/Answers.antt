use Rattle.frame_simulation.proofs.FlatRuns.Forward.{runs_are_done}
use Rattle.frame_simulation.proofs.FlatRuns.Only.{only_these_end}
use Rattle.frame_simulation.proofs.flat_runs.laws.runs_are_done.Goals as goal

pub returns-clause-forward : goal.returns-clause-forward
returns-clause-forward c = runs_are_done

pub returns-clause-only : goal.returns-clause-only
returns-clause-only c = only_these_end c.runs_go_on.ensures.kept.places
