use Rattle.std.proofs.Common.{◌≡◌, ◌++◌}
use Rattle.std.specs.Prelude.{drop}
use Rattle.binpack_blocks.specs.model.Tops.{is_listed, places_from}
use Rattle.binpack_blocks.proofs.bins.Scan.places.Given as goal

abbrev pub invariant-loop-r : goal.invariant-loop-r
invariant-loop-r l = l.out ++ places_from (is_listed l.all l.set) l.r (drop l.r l.self.bins.items) ≡ places_from (is_listed l.all l.set) 0 l.self.bins.items
