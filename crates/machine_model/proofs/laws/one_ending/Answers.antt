use Rattle.machine_model.proofs.Runs.{steps_add_up, steps_keep, one_ending}
use Rattle.machine_model.proofs.laws.one_ending.Goals as goal

pub returns : goal.returns
returns g c = record { sum = steps_add_up _ _; steps = steps_keep _ _; one = one_ending _ _ }
