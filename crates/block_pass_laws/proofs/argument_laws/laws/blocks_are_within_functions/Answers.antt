use Rattle.block_pass_laws.proofs.ArgumentLaws.Widths.{functions_within}
use Rattle.block_pass_laws.proofs.argument_laws.laws.blocks_are_within_functions.Goals as goal

pub returns : goal.returns
returns c = functions_within
