-- The events of the transfers so far.
use Rattle.std.proofs.Common.{◌≡◌, ◌++◌, take, map}
use Rattle.alloc_rules.specs.Journal.{event_of}
use Rattle.alloc_journal.proofs.visits.put_transfers.Given as goal

abbrev pub invariant-loop-transfer : goal.invariant-loop-transfer
invariant-loop-transfer l = l.out ≡ l.initial.out ++ map event_of (take l.transfer-index l.transfers)
