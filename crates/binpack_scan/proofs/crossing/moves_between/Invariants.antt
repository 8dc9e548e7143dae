use Rattle.std.proofs.Common.{◌≡◌, take}
use Rattle.std.specs.Prelude.{flat_map}
use Rattle.binpack_scan.specs.model.Edges.{move_of}
use Rattle.binpack_scan.proofs.crossing.moves_between.Given as goal

abbrev pub invariant-loop-s : goal.invariant-loop-s
invariant-loop-s l = l.moves.items ≡ flat_map (move_of l.bottom) (take l.s-index l.top)
