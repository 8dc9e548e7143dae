-- The results of the operators are words as their types hold them; and the operators on the numbers 0 and 1.
use Rattle.std.proofs.Common.{◌≡◌, ℕ, ◌*◌, ◌^◌, ℤ, pos, ◌+ℤ◌, ◌-ℤ◌, ◌*ℤ◌, neg_ℤ, Bool, true, false, cond, Option, Some, None, refl, sym, ap, ◌∙◌, eq-eqb, arith}
use Rattle.std.specs.Prelude.{int_div, int_rem}
use Rattle.std.proofs.lemmas.Int.{ints}
use lib.IntN.{+ℤ_comm, *ℤ_comm}
use Rattle.bk_arithmetic.specs.declared.integer_type.IntegerType.{IntegerType}
use Rattle.bk_arithmetic.specs.declared.integer_type.IntegerType.TheVariants.{Char, UnsignedChar, Short, UnsignedShort, Int, UnsignedInt, Long, UnsignedLong}
use Rattle.bk_arithmetic.specs.declared.outcome.ArithmeticOutcome.{ArithmeticOutcome}
use Rattle.bk_arithmetic.specs.declared.outcome.ArithmeticOutcome.TheVariants.{Word}
use Rattle.bk_arithmetic.specs.IntegerTypes.{is_signed, fits}
use Rattle.bk_arithmetic.specs.Words.{value, extension, is_word, word, residue}
use Rattle.bk_arithmetic.specs.Operations.{overflow, division_by_zero, word_or_overflow, result_in, checked_remainder, sum, difference, product, negation, quotient, remainder, shift_count, left_shift_by, right_shift_by, left_shift, right_shift}
use Rattle.bk_arithmetic.specs.Outcomes.{IsWordOf}
use Rattle.bk_arithmetic.proofs.LowBits.{extension-again}
use Rattle.bk_arithmetic.proofs.Values.{fits-value, word-value}
use Rattle.bk_arithmetic.proofs.Sums.{value-zero}

-- ---- words

pub is_word-extension : (t : IntegerType) (n : ℕ) → is_word t (extension t n) ≡ true
is_word-extension t n = eq-eqb (extension t (extension t n)) (extension t n) (extension-again t n)

one_of : (t : IntegerType) (b : Bool) (o p : ArithmeticOutcome) → IsWordOf t o → IsWordOf t p → IsWordOf t (cond b o p)
one_of t true o p h k = h
one_of t false o p h k = k

checked_word : (t : IntegerType) (z : ℤ) → IsWordOf t (word_or_overflow t z)
checked_word t z = one_of t (fits t z) (Word (word t z)) overflow (is_word-extension t (residue z)) tt

result_word : (t : IntegerType) (z : ℤ) → IsWordOf t (result_in t z)
result_word t z = one_of t (is_signed t) (word_or_overflow t z) (Word (word t z)) (checked_word t z) (is_word-extension t (residue z))

pub sum-word : (t : IntegerType) (a b : ℕ) → IsWordOf t (sum t a b)
sum-word t a b = result_word t (value t a +ℤ value t b)

pub difference-word : (t : IntegerType) (a b : ℕ) → IsWordOf t (difference t a b)
difference-word t a b = result_word t (value t a -ℤ value t b)

pub product-word : (t : IntegerType) (a b : ℕ) → IsWordOf t (product t a b)
product-word t a b = result_word t (value t a *ℤ value t b)

pub negation-word : (t : IntegerType) (a : ℕ) → IsWordOf t (negation t a)
negation-word t a = result_word t (neg_ℤ (value t a))

pub quotient-word : (t : IntegerType) (a b : ℕ) → IsWordOf t (quotient t a b)
quotient-word t a b = let q = int_div (value t a) (value t b) in one_of t _ division_by_zero (word_or_overflow t q) tt (checked_word t q)

pub remainder-word : (t : IntegerType) (a b : ℕ) → IsWordOf t (remainder t a b)
remainder-word t a b =
    let r = int_rem (value t a) (value t b) in
    one_of t _ division_by_zero (checked_remainder t (value t a) (value t b)) tt
    (one_of t (fits t (int_div (value t a) (value t b))) (Word (word t r)) overflow (is_word-extension t (residue r)) tt)

left_shift_word : (t : IntegerType) (a : ℕ) (k : Option ℕ) → IsWordOf t (left_shift_by t a k)
left_shift_word t a (Some k) = is_word-extension t (a * 2 ^ k)
left_shift_word t a None = tt

right_shift_word : (t : IntegerType) (a : ℕ) (k : Option ℕ) → IsWordOf t (right_shift_by t a k)
right_shift_word t a (Some k) = is_word-extension t _
right_shift_word t a None = tt

pub left_shift-word : (t u : IntegerType) (a c : ℕ) → IsWordOf t (left_shift t u a c)
left_shift-word t u a c = left_shift_word t a (shift_count t u c)

pub right_shift-word : (t u : IntegerType) (a c : ℕ) → IsWordOf t (right_shift t u a c)
right_shift-word t u a c = right_shift_word t a (shift_count t u c)

-- ---- either order

pub sum-either : (t : IntegerType) (a b : ℕ) → sum t a b ≡ sum t b a
sum-either t a b = ap (result_in t) (+ℤ_comm (value t a) (value t b))

pub product-either : (t : IntegerType) (a b : ℕ) → product t a b ≡ product t b a
product-either t a b = ap (result_in t) (*ℤ_comm (value t a) (value t b))

-- ---- 0 and 1

value-one : (t : IntegerType) → value t 1 ≡ pos 1
value-one Char = refl
value-one UnsignedChar = refl
value-one Short = refl
value-one UnsignedShort = refl
value-one Int = refl
value-one UnsignedInt = refl
value-one Long = refl
value-one UnsignedLong = refl

-- a value as a result
both : (b : Bool) (o : ArithmeticOutcome) → cond b o o ≡ o
both true o = refl
both false o = refl

pub result-value : (t : IntegerType) (n : ℕ) → result_in t (value t n) ≡ Word (extension t n)
result-value t n =
    let held : Word (word t (value t n)) ≡ Word (extension t n) = ap Word (word-value t n) in
    let fit : word_or_overflow t (value t n) ≡ Word (word t (value t n)) = ap (λ b. cond b (Word (word t (value t n))) overflow) (fits-value t n) in
    ap (λ o. cond (is_signed t) o (Word (word t (value t n)))) fit ∙ both (is_signed t) (Word (word t (value t n))) ∙ held

add_none : (z : ℤ) → z +ℤ pos 0 ≡ z
add_none z = omega (arith, ints)

subtract_none : (z : ℤ) → z -ℤ pos 0 ≡ z
subtract_none z = omega (arith, ints)

times_one : (z : ℤ) → z *ℤ pos 1 ≡ z
times_one z = omega (arith, ints)

times_none : (z : ℤ) → z *ℤ pos 0 ≡ pos 0
times_none z = omega (arith, ints)

pub sum-zero : (t : IntegerType) (a : ℕ) → sum t a 0 ≡ Word (extension t a)
sum-zero t a = ap (λ z. result_in t (value t a +ℤ z)) (value-zero t) ∙ ap (result_in t) (add_none (value t a)) ∙ result-value t a

pub difference-zero : (t : IntegerType) (a : ℕ) → difference t a 0 ≡ Word (extension t a)
difference-zero t a = ap (λ z. result_in t (value t a -ℤ z)) (value-zero t) ∙ ap (result_in t) (subtract_none (value t a)) ∙ result-value t a

pub product-one : (t : IntegerType) (a : ℕ) → product t a 1 ≡ Word (extension t a)
product-one t a = ap (λ z. result_in t (value t a *ℤ z)) (value-one t) ∙ ap (result_in t) (times_one (value t a)) ∙ result-value t a

extension-zero : (t : IntegerType) → extension t 0 ≡ 0
extension-zero Char = refl
extension-zero UnsignedChar = refl
extension-zero Short = refl
extension-zero UnsignedShort = refl
extension-zero Int = refl
extension-zero UnsignedInt = refl
extension-zero Long = refl
extension-zero UnsignedLong = refl

pub product-zero : (t : IntegerType) (a : ℕ) → product t a 0 ≡ Word 0
product-zero t a =
    ap (λ z. result_in t (value t a *ℤ z)) (value-zero t)
    ∙ ap (result_in t) (times_none (value t a) ∙ sym (value-zero t))
    ∙ result-value t 0
    ∙ ap Word (extension-zero t)
