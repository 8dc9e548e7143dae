use Rattle.block_preparation_laws.proofs.Behind.{functions_fit}
use Rattle.block_preparation_laws.proofs.laws.temp_functions_fit.Goals as goal

pub returns : goal.returns
returns c =
    functions_fit c.before.selected_blocks_are_within.ensures c.before.selected_calls_are_narrow.ensures
    c.before.selected_functions_are_near.ensures c.blocks_are_within_functions.ensures
