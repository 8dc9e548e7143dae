-- The registers that the transfers so far give.
use Rattle.std.proofs.Common.{◌≡◌, ◌++◌, take}
use Rattle.std.specs.Prelude.{flat_map}
use Rattle.alloc_rules.specs.Journal.{assigned_by_move}
use Rattle.alloc_journal.proofs.visits.put_all_loaded.Given as goal

abbrev pub invariant-loop-transfer : goal.invariant-loop-transfer
invariant-loop-transfer l = l.out ≡ l.initial.out ++ flat_map assigned_by_move (take l.transfer-index l.transfers)
