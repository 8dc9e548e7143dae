use Rattle.block_passes.proofs.Chains.{transitive}
use Rattle.block_passes.proofs.laws.keeps_is_transitive.Goals as goal

pub returns : goal.returns
returns c = transitive
