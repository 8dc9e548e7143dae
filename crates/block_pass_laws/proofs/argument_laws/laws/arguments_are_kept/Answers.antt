use Rattle.block_pass_laws.proofs.ArgumentLaws.Kept.{arguments_kept}
use Rattle.block_pass_laws.proofs.argument_laws.laws.arguments_are_kept.Goals as goal

pub returns : goal.returns
returns c = arguments_kept
