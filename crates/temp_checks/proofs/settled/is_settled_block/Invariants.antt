use Rattle.std.proofs.Common.{◌≡◌}
use Rattle.bk_ilist.specs.Listing.{items}
use Rattle.temp_ir.specs.Fixed.{is_settled_block}
use Rattle.temp_checks.proofs.settled.is_settled_block.Given as goal

abbrev pub invariant-loop-line : goal.invariant-loop-line
invariant-loop-line l = is_settled_block l.written.items (items l.line-iterator) ≡ is_settled_block l.first l.block
