use Rattle.selection_laws.proofs.Keeps.{selected_programs}
use Rattle.selection_laws.proofs.laws.selection_keeps_the_meaning.Goals as goal

pub returns : goal.returns
returns c = selected_programs
