-- The number that digits spell, digit by digit.
use Rattle.std.proofs.Common.{◌≡◌, ℕ, ◌+◌, ◌-◌, ◌^◌, ◌<◌, ◌≤◌, Bool, true, false, List, Option, Some, None, refl, sym, ap, ◌∙◌, length, take, get_or, arith, nat_le}
use Rattle.std.proofs.lemmas.List.Sums.{fold_more}
use Rattle.std.proofs.lemmas.Bool.Decides.{nat_tests}
use native.Mathlib.Nat.{le-mul_of_pos_right}
use Rattle.c_lexer.specs.Literals.{digit_step, value_in}
use Rattle.c_typing_literals.specs.Integers.{word_of_number}
use Rattle.c_typing_literals.specs.model.Digits.{next_value}

large : (n : ℕ) → 2 ^ 64 - 1 < n → word_of_number n ≡ None
unfolding word_of_number
large n h = grind (arith, nat_tests)

small : (n : ℕ) → n ≤ 2 ^ 64 - 1 → word_of_number n ≡ Some n
unfolding word_of_number
small n h = grind (arith, nat_tests)

-- a number that no word holds is no less with one digit more
next : (base n b : ℕ) → 0 < base → next_value base (word_of_number n) b ≡ word_of_number (digit_step base n b)
next base n b h = by (nat_le n (2 ^ 64 - 1)) refl
  where
    by : (t : Bool) → nat_le n (2 ^ 64 - 1) ≡ t → next_value base (word_of_number n) b ≡ word_of_number (digit_step base n b)
    by true e = ap (λ v. next_value base v b) (small n (grind (arith, nat_tests)))
    by false e =
        let much : 2 ^ 64 - 1 < n = grind (arith, nat_tests) in
        ap (λ v. next_value base v b) (large n much) ∙ sym (large (digit_step base n b) (omega (arith, much, le-mul_of_pos_right n h)))

pub value_start : (base : ℕ) (xs : List ℕ) → Some 0 ≡ word_of_number (value_in base (take 0 xs))
unfolding word_of_number value_in
value_start base xs = refl

pub value_more : (base : ℕ) (xs : List ℕ) (i : ℕ) (v w : Option ℕ) → 0 < base → i < length xs → v ≡ word_of_number (value_in base (take i xs))
    → w ≡ next_value base v (get_or xs i 0) → w ≡ word_of_number (value_in base (take (i + 1) xs))
unfolding value_in
value_more base xs i v w some within old new =
    new ∙ (ap (λ r. next_value base r (get_or xs i 0)) old ∙ (next base (value_in base (take i xs)) (get_or xs i 0) some ∙ ap word_of_number (sym (fold_more (digit_step base) 0 xs i 0 within))))
