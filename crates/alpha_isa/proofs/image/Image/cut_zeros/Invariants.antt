-- What was cut off stands among the zeros.
use Rattle.std.proofs.Common.{◌≡◌, ◌+◌, ◌++◌, length, replicate}
use Rattle.alpha_isa.proofs.image.Image.cut_zeros.Given as goal

abbrev pub invariant-loop-bytes : goal.invariant-loop-bytes
invariant-loop-bytes l = record {
  data_bytes : l.bytes.items ++ replicate l.zeros 0 ≡ l.fn.self.bytes ++ replicate l.fn.self.zeros 0;
  size : length l.bytes.items + l.zeros ≡ length l.fn.self.bytes + l.fn.self.zeros;
  words : l.words.items ≡ l.fn.self.words;
  entry : l.entry ≡ l.fn.self.entry;
}

abbrev pub decreases-loop-bytes : goal.decreases-loop-bytes
decreases-loop-bytes l = length l.bytes.items
