-- Comparisons by words.
use Rattle.bk_arithmetic.proofs.Comparisons.{equal-value, value-equal, equal-words, value-long, less-unsigned}
use Rattle.bk_arithmetic.proofs.laws.words_compare.Goals as goal

pub returns : goal.returns
returns c = record {
  value = equal-value;
  equal = value-equal;
  words = equal-words;
  long = value-long;
  less = less-unsigned;
}
