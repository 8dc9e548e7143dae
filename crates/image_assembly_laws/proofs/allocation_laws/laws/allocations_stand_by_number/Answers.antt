use Rattle.image_assembly_laws.proofs.AllocationLaws.Lists.{allocations_stand_by_number}
use Rattle.image_assembly_laws.proofs.allocation_laws.laws.allocations_stand_by_number.Goals as goal

pub returns : goal.returns
returns c = allocations_stand_by_number
