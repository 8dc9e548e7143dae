-- The code of those that were let go stands.
use Rattle.std.specs.Vec.Iter.{into_iter_items}
use Rattle.lowering.proofs.Turns.{AreLoweredSoFar}
use Rattle.lowering.proofs.in_turn.lower_each.Given as goal

abbrev pub invariant-loop-f : goal.invariant-loop-f
invariant-loop-f l = AreLoweredSoFar l.structs l.fn.list (into_iter_items l.f-iterator) l.functions
