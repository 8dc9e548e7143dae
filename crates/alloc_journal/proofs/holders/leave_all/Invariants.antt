-- The registers below have what the instruction leaves there.
use Rattle.std.proofs.Common.{◌≡◌, length}
use Rattle.alloc_journal.specs.model.Holders.{left_below}
use Rattle.alloc_journal.proofs.holders.leave_all.Given as goal

abbrev pub invariant-loop-r : goal.invariant-loop-r
invariant-loop-r l = record {
  many : length l.holders ≡ 26;
  left : l.holders ≡ left_below l.insn l.r l.initial.holders;
}
