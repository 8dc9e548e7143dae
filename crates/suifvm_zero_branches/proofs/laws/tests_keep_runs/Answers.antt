use Rattle.suifvm_zero_branches.proofs.Lockstep.{tests_keep}
use Rattle.suifvm_zero_branches.proofs.laws.tests_keep_runs.Goals as goal

pub returns : goal.returns
returns c = tests_keep
