use Rattle.block_pass_laws.proofs.BackLaws.Removals.{removal_keeps_cost}
use Rattle.block_pass_laws.proofs.back_laws.laws.removal_keeps_the_cost.Goals as goal

pub returns : goal.returns
returns c = removal_keeps_cost
