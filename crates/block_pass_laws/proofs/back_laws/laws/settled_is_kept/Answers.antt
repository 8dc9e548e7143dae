use Rattle.block_pass_laws.proofs.BackLaws.Settled.{settled_kept}
use Rattle.block_pass_laws.proofs.back_laws.laws.settled_is_kept.Goals as goal

pub returns : goal.returns
returns c = settled_kept
