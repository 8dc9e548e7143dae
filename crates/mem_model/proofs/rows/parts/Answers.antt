use Rattle.std.proofs.Common.{refl}
use Rattle.mem_model.specs.Cells.{parts_of}
use Rattle.mem_model.proofs.rows.parts.Goals as goal

pub returns : goal.returns
unfolding parts_of
returns c = refl
