use Rattle.block_preparation_laws.proofs.Same.{passes_keep}
use Rattle.block_preparation_laws.proofs.laws.passes_keep_selections.Goals as goal

pub returns : goal.returns
returns c = passes_keep c.selected_blocks_are_within.ensures
