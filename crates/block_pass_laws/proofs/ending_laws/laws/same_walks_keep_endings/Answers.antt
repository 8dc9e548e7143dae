use Rattle.block_pass_laws.proofs.EndingLaws.Kept.{endings_kept}
use Rattle.block_pass_laws.proofs.ending_laws.laws.same_walks_keep_endings.Goals as goal

pub returns : goal.returns
returns c = endings_kept
