use Rattle.block_pass_laws.proofs.BackLaws.Marks.{marks_kept}
use Rattle.block_pass_laws.proofs.back_laws.laws.marks_are_kept.Goals as goal

pub returns : goal.returns
returns c = marks_kept
