-- The transfers of the blocks so far.
use Rattle.std.proofs.Common.{◌≡◌, take, None}
use Rattle.std.specs.Prelude.{flat_map}
use Rattle.alloc_plain_lists.specs.Plain.{transfers_from}
use Rattle.alloc_plain_lists.proofs.blocks.all_transfers.Given as goal

abbrev pub invariant-loop-block : goal.invariant-loop-block
invariant-loop-block l = l.all ≡ flat_map (transfers_from None) (take l.block-index l.blocks)
