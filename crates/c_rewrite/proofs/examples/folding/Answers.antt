use Rattle.std.proofs.Common.{refl}
use Rattle.c_rewrite.proofs.examples.folding.Goals as goal

pub returns : goal.returns
returns c = record {
  from_the_leaves = refl;
  one_level = refl;
  overflow_stays = refl;
  unsigned_wraps = refl;
  division_by_zero_stays = refl;
  undefined_stays = refl;
  cast_narrows = refl;
  commas = refl;
  choice = refl;
  literal_stays = refl;
}
