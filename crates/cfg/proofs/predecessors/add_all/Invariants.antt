use Rattle.std.proofs.Common.{◌≡◌, length, take}
use Rattle.cfg.specs.Edges.{edges_from, sources_of_each}
use Rattle.cfg.proofs.predecessors.add_all.Given as goal

abbrev pub invariant-loop-number : goal.invariant-loop-number
invariant-loop-number l = l.lists ≡ sources_of_each (length l.fn.lists) (edges_from 0 (take l.number l.followers))
