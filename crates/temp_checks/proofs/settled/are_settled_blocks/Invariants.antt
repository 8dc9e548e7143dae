use Rattle.std.proofs.Common.{◌≡◌, [], drop}
use Rattle.std.specs.List.{list_all}
use Rattle.temp_ir.specs.Fixed.{is_settled_block}
use Rattle.temp_checks.proofs.settled.are_settled_blocks.Given as goal

abbrev pub invariant-loop-block : goal.invariant-loop-block
invariant-loop-block l =
    list_all (is_settled_block []) (drop l.block-index l.blocks) ≡ list_all (is_settled_block []) l.blocks
