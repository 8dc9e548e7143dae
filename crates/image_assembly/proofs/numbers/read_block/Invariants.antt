use Rattle.std.proofs.Common.{All}
use Rattle.bk_ilist.specs.Listing.{items}
use Rattle.frame_bounds.specs.frame_ranges.Ranges.{HasSmallNumbers}
use Rattle.image_assembly.proofs.numbers.read_block.Given as goal

-- what holds of all that are left holds of all
abbrev pub invariant-loop-line : goal.invariant-loop-line
invariant-loop-line l = All HasSmallNumbers (items l.line-iterator) → All HasSmallNumbers l.block
