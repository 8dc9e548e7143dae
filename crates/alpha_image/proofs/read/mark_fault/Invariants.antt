-- the bytes so far are those of the mark
use Rattle.std.proofs.Common.{◌≡◌, drop}
use Rattle.alpha_isa.specs.ImageFormat.{mark}
use Rattle.alpha_image.specs.ImageFault.{differs_at}
use Rattle.alpha_image.proofs.read.mark_fault.Given as goal

abbrev pub invariant-loop-i : goal.invariant-loop-i
invariant-loop-i l = differs_at (drop l.i mark) (drop l.i l.bytes) l.i ≡ differs_at mark l.bytes 0
