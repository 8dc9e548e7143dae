use Rattle.block_pass_laws.proofs.BackLaws.Splits.{splits_grow}
use Rattle.block_pass_laws.proofs.back_laws.laws.splits_grow_once.Goals as goal

pub returns : goal.returns
returns c = splits_grow
