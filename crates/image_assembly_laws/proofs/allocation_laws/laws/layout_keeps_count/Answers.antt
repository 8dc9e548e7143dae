use Rattle.image_assembly_laws.proofs.AllocationLaws.Labels.{layout_keeps_count}
use Rattle.image_assembly_laws.proofs.allocation_laws.laws.layout_keeps_count.Goals as goal

pub returns : goal.returns
returns c = layout_keeps_count
