use Rattle.image_assembly_laws.proofs.AllocationLaws.Lists.{allocations_are_near}
use Rattle.image_assembly_laws.proofs.allocation_laws.laws.allocations_are_near.Goals as goal

pub returns : goal.returns
returns c = allocations_are_near
