use Rattle.std.proofs.Common.{All, take}
use Rattle.frame_bounds.specs.frame_ranges.Ranges.{HasSmallNumbers}
use Rattle.image_assembly.proofs.numbers.read_numbers.Given as goal

abbrev pub invariant-loop-block : goal.invariant-loop-block
invariant-loop-block l = All (All HasSmallNumbers) (take l.block-index l.a.func.blocks)
