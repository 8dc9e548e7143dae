-- The maps so far.
use Rattle.std.proofs.Common.{◌≡◌, [], take, map}
use Rattle.alloc_plain_lists.proofs.blocks.empty_maps.Given as goal

abbrev pub invariant-loop-block : goal.invariant-loop-block
invariant-loop-block l = l.maps ≡ map (λ block. []) (take l._block-index l.blocks)
