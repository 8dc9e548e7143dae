use Rattle.binpack_scan.specs.model.Edges.{IsHeld}
use Rattle.binpack_scan.proofs.crossing.hold_all.Given as goal

abbrev pub invariant-loop-s : goal.invariant-loop-s
invariant-loop-s l = IsHeld l.bottom l.s-index l.holders
