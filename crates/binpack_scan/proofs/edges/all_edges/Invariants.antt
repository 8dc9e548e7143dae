use Rattle.std.proofs.Common.{◌≡◌, take}
use Rattle.std.specs.Prelude.{All}
use Rattle.alloc_model.specs.Faithful.{sorted_edges_from}
use Rattle.binpack_scan.specs.model.Edges.{IsEdgeCode, ends_of}
use Rattle.binpack_scan.proofs.edges.all_edges.Given as goal

abbrev pub invariant-loop-from : goal.invariant-loop-from
invariant-loop-from l = record {
  ends : ends_of l.edges ≡ sorted_edges_from 0 (take l.from l.f.blocks);
  codes : All (IsEdgeCode l.bottoms l.tops l.lives l.needs) l.edges;
}
