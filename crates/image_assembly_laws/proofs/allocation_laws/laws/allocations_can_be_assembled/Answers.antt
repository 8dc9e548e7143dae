use Rattle.image_assembly_laws.proofs.AllocationLaws.Fit.{allocations_can_be_assembled}
use Rattle.image_assembly_laws.proofs.allocation_laws.laws.allocations_can_be_assembled.Goals as goal

pub returns : goal.returns
returns c = allocations_can_be_assembled
