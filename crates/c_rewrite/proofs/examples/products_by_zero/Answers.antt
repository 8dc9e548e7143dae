use Rattle.std.proofs.Common.{refl}
use Rattle.c_rewrite.proofs.examples.products_by_zero.Goals as goal

pub returns : goal.returns
returns c = record {
  right = refl;
  left = refl;
  unsigned_sum = refl;
  call_stays = refl;
  assignment_stays = refl;
  step_stays = refl;
  memory_stays = refl;
  global_stays = refl;
  load_stays = refl;
  signed_sum_stays = refl;
  quotient_stays = refl;
}
