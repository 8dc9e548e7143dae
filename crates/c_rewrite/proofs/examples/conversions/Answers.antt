use Rattle.std.proofs.Common.{refl}
use Rattle.c_rewrite.proofs.examples.conversions.Goals as goal

pub returns : goal.returns
returns c = record {
  to_its_own_type = refl;
  widening_stays = refl;
  through_a_wide_one = refl;
  through_one_with_all_values = refl;
  narrowing_between_stays = refl;
  sign_between_stays = refl;
}
