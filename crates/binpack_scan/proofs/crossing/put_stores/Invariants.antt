use Rattle.std.proofs.Common.{◌≡◌, ◌++◌, [], take}
use Rattle.std.specs.Prelude.{flat_map, slice_index_or}
use Rattle.binpack_scan.specs.model.Edges.{store_of}
use Rattle.binpack_scan.proofs.crossing.put_stores.Given as goal

abbrev pub invariant-loop-s : goal.invariant-loop-s
invariant-loop-s l =
    l.code
    ≡ l.initial.code ++ flat_map (store_of (slice_index_or l.lives l.to []) (slice_index_or l.needs l.to []) l.top) (take l.s-index l.bottom)
