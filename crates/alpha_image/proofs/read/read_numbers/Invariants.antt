-- the numbers so far spell the bytes so far
use Rattle.std.proofs.Common.{◌≡◌, ◌*◌, take, drop, length}
use Rattle.std.specs.Prelude.{flat_map}
use Rattle.alpha_isa.specs.ImageFormat.{four_bytes}
use Rattle.alpha_image.proofs.read.read_numbers.Given as goal

abbrev pub invariant-loop-i : goal.invariant-loop-i
invariant-loop-i l = record {
  spelled : flat_map four_bytes l.numbers.items ≡ take (4 * l.i) (drop l.start l.bytes);
  count : length l.numbers.items ≡ l.i;
}
