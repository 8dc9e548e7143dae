use Rattle.image_assembly_laws.proofs.AllocationLaws.Fit.{allocations_fit}
use Rattle.image_assembly_laws.proofs.allocation_laws.laws.allocations_fit.Goals as goal

pub returns : goal.returns
returns c = allocations_fit
