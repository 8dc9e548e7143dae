use Rattle.lowering_code.proofs.Computed as it
use Rattle.lowering_code.proofs.examples.arithmetic.Goals as goal

pub returns : goal.returns
returns g = record {
  sum_overflows = it.is-sum_overflows;
  product_overflows = it.is-product_overflows;
  unsigned_wraps = it.is-unsigned_wraps;
  narrowing_wraps = it.is-narrowing_wraps;
  increment_overflows = it.is-increment_overflows;
  minus_least = it.is-minus_least;
  division_by_zero = it.is-division_by_zero;
  least_by_minus_one = it.is-least_by_minus_one;
  remainder_of_least = it.is-remainder_of_least;
  division_truncates = it.is-division_truncates;
  remainder_has_the_sign = it.is-remainder_has_the_sign;
  shift_keeps_the_sign = it.is-shift_keeps_the_sign;
  shift_keeps_low_bits = it.is-shift_keeps_low_bits;
  unsigned_compares = it.is-unsigned_compares;
  compound_narrows = it.is-compound_narrows;
}
