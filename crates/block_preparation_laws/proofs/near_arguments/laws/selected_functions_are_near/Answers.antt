use Rattle.block_preparation_laws.proofs.NearArguments.Selected.{selected_near}
use Rattle.block_preparation_laws.proofs.near_arguments.laws.selected_functions_are_near.Goals as goal

pub returns : goal.returns
returns c = selected_near
