use Rattle.std.proofs.Common.{refl}
use Rattle.c_rewrite.proofs.examples.neutral_operands.Goals as goal

pub returns : goal.returns
returns c = record {
  plus_zero = refl;
  zero_plus = refl;
  minus_zero = refl;
  zero_minus_stays = refl;
  times_one = refl;
  one_times = refl;
  or_zero = refl;
  zero_or_stays = refl;
  xor_zero = refl;
  left_by_zero = refl;
  right_by_zero = refl;
  by_one_stays = refl;
  plus_one_stays = refl;
}
