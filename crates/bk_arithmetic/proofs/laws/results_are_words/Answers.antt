-- Each result is a word of its type.
use Rattle.bk_arithmetic.proofs.Results.{sum-word, difference-word, product-word, negation-word, quotient-word, remainder-word, left_shift-word, right_shift-word, is_word-extension}
use Rattle.bk_arithmetic.proofs.laws.results_are_words.Goals as goal

pub returns : goal.returns
returns c = record {
  sum = sum-word;
  difference = difference-word;
  product = product-word;
  negation = negation-word;
  quotient = quotient-word;
  remainder = remainder-word;
  left_shift = left_shift-word;
  right_shift = right_shift-word;
  word = is_word-extension;
}
