-- Words of results.
use Rattle.bk_arithmetic.proofs.Sums.{word-sum, word-difference, word-product, word-negation}
use Rattle.bk_arithmetic.proofs.laws.results_need_words.Goals as goal

pub returns : goal.returns
returns c = record {
  sum = word-sum;
  difference = word-difference;
  product = word-product;
  negation = word-negation;
}
