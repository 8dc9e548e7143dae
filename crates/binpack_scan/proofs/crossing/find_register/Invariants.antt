use Rattle.std.proofs.Common.{◌≡◌, drop}
use Rattle.binpack_scan.specs.model.Edges.{register_for}
use Rattle.binpack_scan.proofs.crossing.find_register.Given as goal

abbrev pub invariant-loop-s : goal.invariant-loop-s
invariant-loop-s l = register_for (drop l.s-index l.places) l.temp ≡ register_for l.places l.temp
