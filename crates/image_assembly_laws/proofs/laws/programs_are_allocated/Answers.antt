use Rattle.image_assembly_laws.proofs.Allocated.{programs-allocated}
use Rattle.image_assembly_laws.proofs.laws.programs_are_allocated.Goals as goal

pub returns : goal.returns
returns c = programs-allocated
