-- the bytes so far were taken, and no call failed
use Rattle.std.proofs.Common.{◌≡◌, take}
use Rattle.bk_io.specs.Outside.{taken_with}
use Rattle.bk_io.proofs.outside.Sink.put_slice.Given as goal

abbrev pub invariant-loop-byte : goal.invariant-loop-byte
invariant-loop-byte g l = record {
  taken : g.Self.Sink.taken l.self ≡ taken_with (take l.byte-index l.bytes) (g.Self.Sink.taken l.fn.self);
  count : g.Self.Sink.faults l.self ≡ g.Self.Sink.faults l.fn.self;
}
