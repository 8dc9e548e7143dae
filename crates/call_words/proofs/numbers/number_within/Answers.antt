-- A text of digits that is not read is larger than any word.
use Rattle.std.proofs.Common.{◌≡◌, true, rules, arith}
use Rattle.call_words.specs.Numbers.{is_decimal}
use Rattle.call_words.proofs.LargeNumbers.{too_large}
use Rattle.call_words.proofs.numbers.number_within.Goals as goal

pub returns-in-Err : goal.returns-in-Err
returns-in-Err c =
    let number : is_decimal c.args.text.now ≡ true = search rules in
    too_large c.args.low c.args.high c.args.text.now c.in-Err.field-0 (omega (arith, c.ranges.high.fits)) number c.in-Err.ensures.value.0
