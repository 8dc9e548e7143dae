use Rattle.block_pass_laws.proofs.BackLaws.Names.{names_kept}
use Rattle.block_pass_laws.proofs.back_laws.laws.names_are_kept.Goals as goal

pub returns : goal.returns
returns c = names_kept
