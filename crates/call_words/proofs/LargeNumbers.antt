-- Numbers that are larger than a word.
use Rattle.std.proofs.Common.{◌≡◌, ℕ, ◌<◌, ◌≤◌, ◌^◌, List, length, true, None, sym, ap, ◌∙◌, rules, arith}
use Rattle.std.specs.Prelude.{if◌then◌else◌, Err}
use Rattle.std.specs.Char.{is_ascii_digit}
use Rattle.std.specs.List.{list_all}
use Rattle.std.specs.Str.Parse.{digits_value, ParsesUnsigned}
use Rattle.std.proofs.lemmas.Str.Parse.{IsNumeralModel, numerals_by_value, parse_digits}
use Rattle.call_words.specs.Numbers.{is_decimal, when_within, number_within}

own : IsNumeralModel (λ ds. list_all is_ascii_digit ds ≡ true) (digits_value 10)
own = numerals_by_value _ (search rules)

beyond : (low high n : ℕ) → high < n → None ≡ when_within low high n
beyond low high n large = search rules

-- a text of digits that is no word has a number beyond each word
pub too_large : {E : Type 0} (low high : ℕ) (text : List ℕ) (e : E) → high < 2 ^ 64 → is_decimal text ≡ true → ParsesUnsigned 64 10 text (Err e) → None ≡ number_within low high text
too_large low high text e word number parses =
    let digits : list_all is_ascii_digit text ≡ true = search rules in
    let some : 0 < length text = search rules in
    let large : high < digits_value 10 text = omega (arith, word, no_word digits some) in
    beyond low high (digits_value 10 text) large ∙ sym (ap (λ b. if b then when_within low high (digits_value 10 text) else None) number)
  where
    no_word : list_all is_ascii_digit text ≡ true → 0 < length text → 2 ^ 64 ≤ digits_value 10 text
    no_word digits some = search (rules, parse_digits own 64 text (Err e) parses digits)
