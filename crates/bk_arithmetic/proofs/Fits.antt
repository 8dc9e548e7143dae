-- The ranges of the types: what fits a signed type is a number of 64 bits, and how the word of such a number is found.
use Rattle.std.proofs.Common.{◌≡◌, ℕ, ◌-◌, ◌^◌, ℤ, pos, negsuc, ◌≤ℤ◌, Bool, true, false, cond, to_z, of_z, refl, sym, ap, subst, ◌∙◌, arith}
use Rattle.std.specs.Prelude.{int_le, int_div, int_rem}
use Rattle.std.specs.Int.{w64, cast_unsigned, CanDivide, IsNonZero}
use Rattle.std.specs.Int.RustNames.{FitsSigned}
use Rattle.std.specs.Bool.{passes}
use Rattle.std.proofs.lemmas.Bool.{and_parts}
use Rattle.std.proofs.lemmas.Int.{ints, to_z-of_z}
use lib.Signed.{le_z_yes, mag_rem}
use Rattle.bk_arithmetic.specs.declared.integer_type.IntegerType.{IntegerType}
use Rattle.bk_arithmetic.specs.declared.integer_type.IntegerType.TheVariants.{Char, UnsignedChar, Short, UnsignedShort, Int, UnsignedInt, Long, UnsignedLong}
use Rattle.bk_arithmetic.specs.declared.outcome.ArithmeticOutcome.TheVariants.{Word, Trap}
use Rattle.bk_arithmetic.specs.IntegerTypes.{is_signed, least, greatest, fits}
use Rattle.bk_arithmetic.specs.Words.{residue, extension, word}
use Rattle.bk_arithmetic.specs.Operations.{overflow, checked_remainder}

pub fits-least : (t : IntegerType) (z : ℤ) → fits t z ≡ true → least t ≤ℤ z
fits-least t z e = le_z_yes (passes _ (and_parts (int_le (least t) z) (int_le z (greatest t)) e).0)

pub fits-greatest : (t : IntegerType) (z : ℤ) → fits t z ≡ true → z ≤ℤ greatest t
fits-greatest t z e = le_z_yes (passes _ (and_parts (int_le (least t) z) (int_le z (greatest t)) e).1)

-- a number between the bounds of 64 bits
in_bounds : (z : ℤ) → negsuc (2 ^ 63 - 1) ≤ℤ z → z ≤ℤ pos (2 ^ 63 - 1) → FitsSigned w64 z
in_bounds (pos n) low high = record { sfits = omega (arith, ints) }
in_bounds (negsuc n) low high = record { sfits = omega (arith, ints) }

least_wide : (t : IntegerType) (z : ℤ) → is_signed t ≡ true → least t ≤ℤ z → negsuc (2 ^ 63 - 1) ≤ℤ z
least_wide Char z s low = omega (arith, ints)
least_wide UnsignedChar z s low = omega (arith, ints)
least_wide Short z s low = omega (arith, ints)
least_wide UnsignedShort z s low = omega (arith, ints)
least_wide Int z s low = omega (arith, ints)
least_wide UnsignedInt z s low = omega (arith, ints)
least_wide Long z s low = low
least_wide UnsignedLong z s low = omega (arith, ints)

greatest_wide : (t : IntegerType) (z : ℤ) → is_signed t ≡ true → z ≤ℤ greatest t → z ≤ℤ pos (2 ^ 63 - 1)
greatest_wide Char z s high = omega (arith, ints)
greatest_wide UnsignedChar z s high = omega (arith, ints)
greatest_wide Short z s high = omega (arith, ints)
greatest_wide UnsignedShort z s high = omega (arith, ints)
greatest_wide Int z s high = omega (arith, ints)
greatest_wide UnsignedInt z s high = omega (arith, ints)
greatest_wide Long z s high = high
greatest_wide UnsignedLong z s high = absurd (let clash : false ≡ true = s in let none : ⊥ = cc in none)

-- what fits a signed type is a number of 64 bits
pub fits-wide : (t : IntegerType) (z : ℤ) → is_signed t ≡ true → fits t z ≡ true → FitsSigned w64 z
fits-wide t z s e = in_bounds z (least_wide t z s (fits-least t z e)) (greatest_wide t z s (fits-greatest t z e))

-- a number of 64 bits, as a word
pub residue-fits : (z : ℤ) → FitsSigned w64 z → residue z ≡ cast_unsigned w64 z
residue-fits (pos n) f = omega (arith, f.sfits)
residue-fits (negsuc n) f = omega (arith, f.sfits)

-- ---- remainders

rem-fits : (a b : ℤ) → FitsSigned w64 a → FitsSigned w64 (int_rem a b)
rem-fits a b f = record { sfits = omega (arith, mag_rem a b, f.sfits) }

same_pair : (f : ℤ → ℤ → ℤ) (a b x y : ℤ) → x ≡ a → y ≡ b → f x y ≡ f a b
same_pair f a b x y ea eb = ap (λ u. f u y) ea ∙ ap (λ u. f a u) eb

-- the word of a remainder, where the quotient fits; x and y are other names of the operands
pub remainder_word : (t : IntegerType) (a b x y q r : ℤ) (v : Bool) (m n : ℕ) → FitsSigned w64 a → x ≡ a → y ≡ b
    → FitsSigned w64 (int_div x y) → q ≡ int_div x y → v ≡ fits t (to_z w64 (of_z w64 q)) → v ≡ true
    → r ≡ int_rem x y → m ≡ of_z w64 (to_z w64 (of_z w64 r)) → n ≡ extension t m → Word n ≡ checked_remainder t a b
remainder_word t a b x y q r v m n f ea eb wide quotient_is test holds rest_is word_is extended_is =
    let q_is : q ≡ int_div a b = quotient_is ∙ same_pair int_div a b x y ea eb in
    let r_is : r ≡ int_rem a b = rest_is ∙ same_pair int_rem a b x y ea eb in
    let q_fits : FitsSigned w64 q = subst (FitsSigned w64) (sym quotient_is) wide in
    let r_fits : FitsSigned w64 r = subst (FitsSigned w64) (sym r_is) (rem-fits a b f) in
    let fit : fits t (int_div a b) ≡ true = ap (fits t) (sym q_is ∙ sym (to_z-of_z w64 q q_fits)) ∙ sym test ∙ holds in
    let m_is : m ≡ residue (int_rem a b) = word_is ∙ ap (of_z w64) (to_z-of_z w64 r r_fits) ∙ sym (residue-fits r r_fits) ∙ ap residue r_is in
    let n_is : n ≡ word t (int_rem a b) = extended_is ∙ ap (extension t) m_is in
    ap Word n_is ∙ sym (ap (λ u. cond u (Word (word t (int_rem a b))) overflow) fit)

-- where the quotient is no number of 64 bits
overflow_at : (t : IntegerType) (a b : ℤ) → (v : Bool) → fits t (int_div a b) ≡ v → (fits t (int_div a b) ≡ true → ⊥) → Trap 3 ≡ cond v (Word (word t (int_rem a b))) overflow
overflow_at t a b true e never = absurd (never e)
overflow_at t a b false e never = refl

pub remainder_overflow : (t : IntegerType) (a b x y : ℤ) → is_signed t ≡ true → x ≡ a → y ≡ b → (CanDivide w64 x y → ⊥) → IsNonZero w64 y → Trap 3 ≡ checked_remainder t a b
remainder_overflow t a b x y s ea eb never nonzero =
    let same : int_div a b ≡ int_div x y = sym (same_pair int_div a b x y ea eb) in
    overflow_at t a b (fits t (int_div a b)) refl (λ e. never (nonzero, subst (FitsSigned w64) same (fits-wide t (int_div a b) s e)))
