use Rattle.std.proofs.Common.{◌≡◌, []}
use Rattle.cfg.specs.Edges.{sources_of_each}
use Rattle.cfg.proofs.predecessors.empty_lists.Given as goal

abbrev pub invariant-loop-made : goal.invariant-loop-made
invariant-loop-made l = l.lists.items ≡ sources_of_each l.made []
