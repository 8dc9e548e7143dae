use Rattle.std.proofs.Common.{take}
use Rattle.std.specs.List.{AllZip}
use Rattle.alloc_rules.proofs.allocator.allocate_all.Given as goal

abbrev pub invariant-loop-f : goal.invariant-loop-f
invariant-loop-f g l = AllZip g.A.Allocates.gives (take l.f-index l.functions) l.allocations.items
