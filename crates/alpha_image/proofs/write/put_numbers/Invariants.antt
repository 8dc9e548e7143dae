-- the numbers so far stand over the bytes that were there
use Rattle.std.proofs.Common.{◌≡◌, ◌*◌, ◌++◌, take, drop}
use Rattle.std.specs.Prelude.{flat_map}
use Rattle.alpha_isa.specs.ImageFormat.{four_bytes}
use Rattle.alpha_image.proofs.write.put_numbers.Given as goal

abbrev pub invariant-loop-i : goal.invariant-loop-i
invariant-loop-i l = l.bytes ≡ flat_map four_bytes (take l.i l.numbers) ++ drop (4 * l.i) l.initial.bytes
