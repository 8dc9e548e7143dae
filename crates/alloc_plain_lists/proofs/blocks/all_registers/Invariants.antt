-- The registers of the blocks so far.
use Rattle.std.proofs.Common.{◌≡◌, take, map}
use Rattle.std.specs.Prelude.{flat_map}
use Rattle.alloc_plain_lists.specs.Plain.{plain_registers}
use Rattle.alloc_plain_lists.proofs.blocks.all_registers.Given as goal

abbrev pub invariant-loop-block : goal.invariant-loop-block
invariant-loop-block l = l.all ≡ flat_map (map plain_registers) (take l.block-index l.blocks)
