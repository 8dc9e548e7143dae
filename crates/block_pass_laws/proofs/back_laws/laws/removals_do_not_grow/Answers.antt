use Rattle.block_pass_laws.proofs.BackLaws.Removals.{removals_grow}
use Rattle.block_pass_laws.proofs.back_laws.laws.removals_do_not_grow.Goals as goal

pub returns : goal.returns
returns c = removals_grow
