-- What is listed so far, with what is left behind it, is the whole block.
use Rattle.std.proofs.Common.{◌≡◌, ◌++◌}
use Rattle.bk_ilist.specs.Listing.{items}
use Rattle.block_coalescing.proofs.function.insns_of.Given as goal

abbrev pub invariant-loop-line : goal.invariant-loop-line
invariant-loop-line l = l.list.items ++ items l.line-iterator ≡ l.block
