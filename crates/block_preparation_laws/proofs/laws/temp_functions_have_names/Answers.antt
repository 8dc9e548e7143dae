use Rattle.block_preparation_laws.proofs.Named.{functions_named}
use Rattle.block_preparation_laws.proofs.laws.temp_functions_have_names.Goals as goal

pub returns : goal.returns
returns c = functions_named
