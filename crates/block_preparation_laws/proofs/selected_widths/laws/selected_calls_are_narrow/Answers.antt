use Rattle.block_preparation_laws.proofs.SelectedWidths.Tested.{selected_narrow}
use Rattle.block_preparation_laws.proofs.selected_widths.laws.selected_calls_are_narrow.Goals as goal

pub returns : goal.returns
returns c = selected_narrow
