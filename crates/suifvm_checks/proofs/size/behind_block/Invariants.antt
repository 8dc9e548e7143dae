use Rattle.std.proofs.Common.{◌≡◌, ◌+◌, length, sum_by}
use Rattle.bk_ilist.specs.Listing.{items}
use Rattle.suifvm_ir.specs.Programs.{weight_of}
use Rattle.suifvm_checks.proofs.size.behind_block.Given as goal

-- what is there, with the whole, is what was there, with what is left
abbrev pub invariant-loop-line : goal.invariant-loop-line
invariant-loop-line l =
    l.rest + length l.block + sum_by weight_of l.block ≡ l.left + length (items l.line-iterator) + sum_by weight_of (items l.line-iterator)
