use Rattle.image_assembly_laws.proofs.AllocationLaws.Labels.{labels_are_few}
use Rattle.image_assembly_laws.proofs.allocation_laws.laws.labels_are_few.Goals as goal

pub returns : goal.returns
returns c = labels_are_few
