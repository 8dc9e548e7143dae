use Rattle.binpack_blocks.specs.model.Uses.{ArePassed}
use Rattle.binpack_blocks.proofs.register_uses.count_passed.Given as goal

abbrev pub invariant-loop-place : goal.invariant-loop-place
invariant-loop-place l = ArePassed l.points l.place l.point
