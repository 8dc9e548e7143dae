-- What is left of the transfers leads to what all of them lead to.
use Rattle.std.proofs.Common.{◌≡◌, drop, length}
use Rattle.alloc_journal.specs.model.Holders.{behind_moves}
use Rattle.alloc_journal.proofs.holders.move_all.Given as goal

abbrev pub invariant-loop-transfer : goal.invariant-loop-transfer
invariant-loop-transfer l = record {
  many : length l.holders ≡ 26;
  moved : behind_moves (drop l.transfer-index l.transfers) l.holders ≡ behind_moves l.transfers l.initial.holders;
}
