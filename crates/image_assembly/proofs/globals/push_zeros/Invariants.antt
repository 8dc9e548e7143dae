use Rattle.std.proofs.Common.{◌≡◌, ◌++◌, replicate}
use Rattle.image_assembly.proofs.globals.push_zeros.Given as goal

abbrev pub invariant-loop-byte : goal.invariant-loop-byte
invariant-loop-byte l = l.bytes.items ≡ l.initial.bytes.items ++ replicate l._byte 0
