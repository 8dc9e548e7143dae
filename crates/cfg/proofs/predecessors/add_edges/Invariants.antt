use Rattle.std.proofs.Common.{◌≡◌, ℕ, List, ◌++◌, length, take}
use Rattle.cfg.specs.Edges.{edges_to, sources_of_each}
use Rattle.cfg.proofs.predecessors.add_edges.Given as goal

abbrev pub invariant-loop-to : goal.invariant-loop-to
invariant-loop-to l =
    (edges : List (ℕ × ℕ)) → l.fn.lists ≡ sources_of_each (length l.fn.lists) edges → l.lists ≡ sources_of_each (length l.fn.lists) (edges ++ edges_to l.number (take l.to-index l.followers))
