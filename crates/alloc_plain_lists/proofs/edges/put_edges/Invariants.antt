-- The edges so far.
use Rattle.std.proofs.Common.{◌≡◌, ◌++◌, take, map}
use Rattle.alloc_plain_lists.specs.Plain.{stores_behind, edge_code}
use Rattle.alloc_plain_lists.proofs.edges.put_edges.Given as goal

abbrev pub invariant-loop-to : goal.invariant-loop-to
invariant-loop-to l = l.out ≡ l.initial.out ++ map (edge_code l.from (stores_behind l.last)) (take l.to-index l.targets)
