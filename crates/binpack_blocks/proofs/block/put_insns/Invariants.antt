use Rattle.std.proofs.Common.{◌≡◌, ◌++◌}
use Rattle.bk_ilist.specs.Listing.{items}
use Rattle.binpack_blocks.proofs.block.put_insns.Given as goal

abbrev pub invariant-loop-line : goal.invariant-loop-line
invariant-loop-line l = l.insns.items ++ items l.line-iterator ≡ l.fn.insns.items ++ l.block
