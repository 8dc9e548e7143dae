-- The widest call so far, or the widest of those that are left, is the widest.
use Rattle.std.proofs.Common.{◌≡◌, max, drop}
use Rattle.alloc_model.specs.Effect.{widest_call}
use Rattle.frame_layout.proofs.shape.widest_call.Given as goal

abbrev pub invariant-loop-block : goal.invariant-loop-block
invariant-loop-block l = max l.widest (widest_call (drop l.block-index l.blocks)) ≡ widest_call l.blocks
