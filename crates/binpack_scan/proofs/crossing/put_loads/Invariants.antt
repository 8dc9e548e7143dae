use Rattle.std.proofs.Common.{◌≡◌, ◌++◌, take}
use Rattle.std.specs.Prelude.{flat_map}
use Rattle.binpack_scan.specs.model.Edges.{load_of}
use Rattle.binpack_scan.proofs.crossing.put_loads.Given as goal

abbrev pub invariant-loop-s : goal.invariant-loop-s
invariant-loop-s l = l.code ≡ l.initial.code ++ flat_map (load_of l.bottom) (take l.s-index l.top)
