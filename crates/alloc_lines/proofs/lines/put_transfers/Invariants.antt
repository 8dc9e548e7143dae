-- What was put, with the text of what is left behind it, is the whole.
use Rattle.std.proofs.Common.{◌≡◌, ◌++◌, drop}
use Rattle.alloc_lines.specs.Text.{transfers_text}
use Rattle.alloc_lines.proofs.lines.put_transfers.Given as goal

abbrev pub invariant-loop-transfer : goal.invariant-loop-transfer
invariant-loop-transfer l =
    l.out.items ++ transfers_text (drop l.transfer-index l.transfers) ≡ l.initial.out.items ++ transfers_text l.transfers
