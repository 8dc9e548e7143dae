use Rattle.block_preparation_laws.proofs.SelectedWidths.Selected.{selected_within}
use Rattle.block_preparation_laws.proofs.selected_widths.laws.selected_blocks_are_within.Goals as goal

pub returns : goal.returns
returns c = selected_within
