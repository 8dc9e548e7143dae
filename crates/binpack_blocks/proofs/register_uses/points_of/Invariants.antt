use Rattle.std.proofs.Common.{◌≡◌}
use Rattle.binpack_blocks.specs.model.Uses.{uses_among}
use Rattle.binpack_blocks.proofs.register_uses.points_of.Given as goal

abbrev pub invariant-loop-place : goal.invariant-loop-place
invariant-loop-place l = l.points ≡ uses_among l.r l.insns l.place
