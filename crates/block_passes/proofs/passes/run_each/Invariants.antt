use Rattle.std.specs.Vec.Iter.{into_iter_items}
use Rattle.block_passes.proofs.Turns.{AreReady}
use Rattle.block_passes.proofs.passes.run_each.Given as goal

abbrev pub invariant-loop-f : goal.invariant-loop-f
invariant-loop-f g l = AreReady g.P.FunctionPass.gives l.fn.functions (into_iter_items l.f-iterator) l.made
