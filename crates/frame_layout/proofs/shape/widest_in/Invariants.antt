-- The widest call so far, or the widest of those that are left, is the widest.
use Rattle.std.proofs.Common.{◌≡◌, max, drop}
use Rattle.alloc_model.specs.Effect.{widest_in}
use Rattle.frame_layout.proofs.shape.widest_in.Given as goal

abbrev pub invariant-loop-insn : goal.invariant-loop-insn
invariant-loop-insn l = max l.widest (widest_in (drop l.insn-index l.insns)) ≡ widest_in l.insns
