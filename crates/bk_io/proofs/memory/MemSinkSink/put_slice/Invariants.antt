-- what is still to be put leads from here to where all the bytes lead from the start
use Rattle.std.proofs.Common.{◌≡◌, take, drop, Some}
use Rattle.bk_io.specs.Outside.{taken_with}
use Rattle.bk_io.specs.Memory.{after_puts, all_put}
use Rattle.bk_io.proofs.memory.MemSinkSink.put_slice.Given as goal

abbrev pub invariant-loop-byte : goal.invariant-loop-byte
invariant-loop-byte l = record {
  puts : after_puts l.self (drop l.byte-index l.bytes) ≡ after_puts l.fn.self l.bytes;
  all : all_put l.self (drop l.byte-index l.bytes) ≡ all_put l.fn.self l.bytes;
  taken : Some l.self.taken ≡ taken_with (take l.byte-index l.bytes) (Some l.fn.self.taken);
  count : l.self.faults ≡ l.fn.self.faults;
}
