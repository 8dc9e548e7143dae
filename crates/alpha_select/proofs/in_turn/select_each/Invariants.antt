-- Those that were let go are selected.
use Rattle.std.specs.Vec.Iter.{into_iter_items}
use Rattle.alpha_select.proofs.Turns.{AreSelectedSoFar}
use Rattle.alpha_select.proofs.in_turn.select_each.Given as goal

abbrev pub invariant-loop-f : goal.invariant-loop-f
invariant-loop-f l = AreSelectedSoFar l.fn.functions (into_iter_items l.f-iterator) l.selected
