use Rattle.std.proofs.Common.{◌≡◌, ◌++◌, take}
use Rattle.std.specs.Prelude.{All}
use Rattle.binpack_scan.specs.model.Edges.{IsEdgeCode, ends_of, edges_to}
use Rattle.binpack_scan.proofs.edges.put_edges.Given as goal

abbrev pub invariant-loop-to : goal.invariant-loop-to
invariant-loop-to l = record {
  ends : ends_of l.out ≡ ends_of l.initial.out ++ edges_to l.from (take l.to-index l.targets);
  codes : All (IsEdgeCode l.bottoms l.tops l.lives l.needs) l.initial.out → All (IsEdgeCode l.bottoms l.tops l.lives l.needs) l.out;
}
