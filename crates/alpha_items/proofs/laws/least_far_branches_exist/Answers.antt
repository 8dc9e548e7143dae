use Rattle.alpha_items.proofs.Exists.{least_far}
use Rattle.alpha_items.proofs.laws.least_far_branches_exist.Goals as goal

pub returns : goal.returns
returns c = least_far
