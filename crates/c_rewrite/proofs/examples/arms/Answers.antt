use Rattle.std.proofs.Common.{refl}
use Rattle.c_rewrite.proofs.examples.arms.Goals as goal

pub returns : goal.returns
returns c = record {
  first_arm = refl;
  and_zero = refl;
  and_other = refl;
  or_other = refl;
  or_zero = refl;
  right_literal_stays = refl;
  not_alone = refl;
  not_after_folding = refl;
}
