-- Conversions, alone and two in a row.
use Rattle.bk_arithmetic.proofs.Conversions.{conversion-same, conversion-narrower, value-conversion, value-promotion, conversion-through_wide, conversion-through_all}
use Rattle.bk_arithmetic.proofs.laws.conversions_keep.Goals as goal

pub returns : goal.returns
returns c = record {
  same = conversion-same;
  narrower = conversion-narrower;
  value = value-conversion;
  promotion = value-promotion;
  through_wide = conversion-through_wide;
  through_all = conversion-through_all;
}
