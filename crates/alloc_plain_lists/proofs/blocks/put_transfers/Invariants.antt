-- What was put, with the transfers of what is left behind it, is the whole.
use Rattle.std.proofs.Common.{◌≡◌, ◌++◌, None}
use Rattle.bk_ilist.specs.Listing.{items}
use Rattle.alloc_plain_lists.specs.Plain.{transfers_from}
use Rattle.alloc_plain_lists.proofs.blocks.put_transfers.Given as goal

abbrev pub invariant-loop-line : goal.invariant-loop-line
invariant-loop-line l =
    l.out ++ transfers_from l.before (items l.line-iterator) ≡ l.initial.out ++ transfers_from None l.block
