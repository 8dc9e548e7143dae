use Rattle.block_passes.proofs.Chains.{reflexive}
use Rattle.block_passes.proofs.laws.keeps_is_reflexive.Goals as goal

pub returns : goal.returns
returns c = reflexive
