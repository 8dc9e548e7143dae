use Rattle.std.proofs.Common.{subst}
use Rattle.std.specs.List.{AllZip}
use Rattle.alloc_rules.proofs.Allocations.{are_allocations}
use Rattle.alloc_rules.proofs.allocator.allocate.Goals as goal

pub returns-clause-gives : goal.returns-clause-gives
returns-clause-gives g c = subst (λ fs. AllZip g.A.Allocates.gives fs c.in_ok-allocations.allocations.items) c.as_slice.ensures c.in_ok-allocations.ensures

pub returns-clause-allocations : goal.returns-clause-allocations
returns-clause-allocations g c =
    are_allocations g.A.Allocates.gives g.met.A.Allocates.lawful c.args.program.now.functions c.in_ok-allocations.allocations.items
    (returns-clause-gives g c)
