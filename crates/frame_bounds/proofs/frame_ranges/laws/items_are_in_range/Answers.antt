use Rattle.frame_bounds.proofs.FrameRanges.Items.{function_in_range}
use Rattle.frame_bounds.proofs.FrameRanges.Numbers.{numbers_fit}
use Rattle.frame_bounds.proofs.frame_ranges.laws.items_are_in_range.Goals as goal

pub returns : goal.returns
returns c = record {
  items = function_in_range;
  numbers = numbers_fit;
}
