-- What was copied so far, with what is left behind it, is the whole block.
use Rattle.std.proofs.Common.{◌≡◌, ◌++◌}
use Rattle.bk_ilist.specs.Listing.{items}
use Rattle.temp_ir.proofs.copy.copy_block.Given as goal

abbrev pub invariant-loop-line : goal.invariant-loop-line
invariant-loop-line l = l.copy ++ items l.line-iterator ≡ l.block
