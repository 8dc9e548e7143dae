-- Those that were let go are ready.
use Rattle.std.specs.Vec.Iter.{into_iter_items}
use Rattle.flow_clean.proofs.Turns.{AreReady}
use Rattle.flow_clean.proofs.passes.run_each.Given as goal

abbrev pub invariant-loop-f : goal.invariant-loop-f
invariant-loop-f g l = AreReady g.P.FunctionPass.needs g.P.FunctionPass.gives l.fn.functions (into_iter_items l.f-iterator) l.made
