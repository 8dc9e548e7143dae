-- Sums and products, and the numbers 0 and 1.
use Rattle.bk_arithmetic.proofs.Results.{sum-either, product-either, sum-zero, difference-zero, product-one, product-zero}
use Rattle.bk_arithmetic.proofs.laws.results_are_simple.Goals as goal

pub returns : goal.returns
returns c = record {
  sum = sum-either;
  product = product-either;
  sum_zero = sum-zero;
  difference_zero = difference-zero;
  product_one = product-one;
  product_zero = product-zero;
}
