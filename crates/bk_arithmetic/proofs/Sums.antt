-- Words of sums, differences, products and negations: they need no more than the words of the operands.
use Rattle.std.proofs.Common.{◌≡◌, ℕ, ◌+◌, ◌-◌, ◌*◌, ◌%◌, ◌^◌, ◌<◌, ◌≤◌, ℤ, pos, negsuc, ◌+ℤ◌, ◌-ℤ◌, ◌*ℤ◌, neg_ℤ, refl, sym, ap, ◌∙◌, arith}
use Rattle.std.specs.Prelude.{unsigned_abs}
use Rattle.std.specs.Int.{Width, w8, w16, w32, w64, w128, cast_signed, cast_unsigned, int_wrap, int_rem_euclid}
use Rattle.std.proofs.lemmas.Int.{ints, of_z-to_z, int_wrap_fits, int_wrap-add_left, int_wrap-add_right, int_wrap-sub_right, int_wrap-mul_left, int_wrap-mul_right, wrapping_add-bits, wrapping_sub-bits, wrapping_mul-bits}
use Rattle.std.proofs.lemmas.Nat.{mul-mod, mod_below, pow_pos}
use mir.Val.{bits}
use Rattle.bk_arithmetic.specs.declared.integer_type.IntegerType.{IntegerType}
use Rattle.bk_arithmetic.specs.declared.integer_type.IntegerType.TheVariants.{Char, UnsignedChar, Short, UnsignedShort, Int, UnsignedInt, Long, UnsignedLong}
use Rattle.bk_arithmetic.specs.IntegerTypes.{width}
use Rattle.bk_arithmetic.specs.Words.{low_bits, signed_bits, value, extension, residue, word}
use Rattle.bk_arithmetic.proofs.LowBits.{low_bits-below, extension-same, narrow}
use Rattle.bk_arithmetic.proofs.Values.{signed_fits}

-- ---- numbers modulo 2^width

-- what is left of a number modulo 2^width, found from its residue modulo 2^64
remainder_of : (w : Width) (z : ℤ) → bits w ≤ 64 → residue z % 2 ^ bits w ≡ unsigned_abs (int_rem_euclid z (pos (2 ^ bits w)))
remainder_of w8 (pos n) small = omega arith
remainder_of w8 (negsuc n) small = omega arith
remainder_of w16 (pos n) small = omega arith
remainder_of w16 (negsuc n) small = omega arith
remainder_of w32 (pos n) small = omega arith
remainder_of w32 (negsuc n) small = omega arith
remainder_of w64 (pos n) small = omega arith
remainder_of w64 (negsuc n) small = omega arith
remainder_of w128 z small = absurd (omega arith)

wrapped : (w : Width) (z : ℤ) → bits w ≤ 64 → cast_signed w (residue z % 2 ^ bits w) ≡ int_wrap w z
unfolding int_wrap
wrapped w z small = ap (cast_signed w) (remainder_of w z small)

-- a number that wraps to what the low bits of a word read as has these low bits
low_of : (w : Width) (z : ℤ) (n : ℕ) → bits w ≤ 64 → int_wrap w z ≡ cast_signed w (n % 2 ^ bits w) → residue z % 2 ^ bits w ≡ n % 2 ^ bits w
low_of w z n small e =
    let below : (m : ℕ) → m % 2 ^ bits w < 2 ^ bits w = λ m. mod_below m (2 ^ bits w) (pow_pos (bits w)) in
    sym (of_z-to_z w (residue z % 2 ^ bits w) (below (residue z)))
    ∙ ap (cast_unsigned w) (wrapped w z small ∙ e)
    ∙ of_z-to_z w (n % 2 ^ bits w) (below n)

-- ---- a value wraps to what its low bits read as

unsigned_wraps : (w : Width) (n : ℕ) → n < 2 ^ bits w → int_wrap w (pos n) ≡ cast_signed w n
unfolding int_wrap
unsigned_wraps w8 n small = ap (cast_signed w8) (omega arith)
unsigned_wraps w16 n small = ap (cast_signed w16) (omega arith)
unsigned_wraps w32 n small = ap (cast_signed w32) (omega arith)
unsigned_wraps w64 n small = ap (cast_signed w64) (omega arith)
unsigned_wraps w128 n small = ap (cast_signed w128) (omega arith)

signed_wraps : (t : IntegerType) (n : ℕ) → int_wrap (width t) (signed_bits t n) ≡ signed_bits t n
signed_wraps t n = int_wrap_fits (width t) (signed_bits t n) (signed_fits t n)

value_wraps : (t : IntegerType) (n : ℕ) → int_wrap (width t) (value t n) ≡ signed_bits t n
value_wraps Char n = signed_wraps Char n
value_wraps UnsignedChar n = unsigned_wraps w8 _ (low_bits-below UnsignedChar n)
value_wraps Short n = signed_wraps Short n
value_wraps UnsignedShort n = unsigned_wraps w16 _ (low_bits-below UnsignedShort n)
value_wraps Int n = signed_wraps Int n
value_wraps UnsignedInt n = unsigned_wraps w32 _ (low_bits-below UnsignedInt n)
value_wraps Long n = signed_wraps Long n
value_wraps UnsignedLong n = unsigned_wraps w64 _ (low_bits-below UnsignedLong n)

-- ---- both operands by their low bits

sum_wraps : (w : Width) (x y : ℤ) → int_wrap w (x +ℤ y) ≡ int_wrap w (int_wrap w x +ℤ int_wrap w y)
sum_wraps w x y = sym (int_wrap-add_left w x (int_wrap w y) ∙ int_wrap-add_right w x y)

difference_wraps : (w : Width) (x y : ℤ) → int_wrap w (x -ℤ y) ≡ int_wrap w (int_wrap w x -ℤ int_wrap w y)
difference_wraps w x y = sym (int_wrap-sub_right w (int_wrap w x) y ∙ int_wrap-add_left w x (neg_ℤ y))

product_wraps : (w : Width) (x y : ℤ) → int_wrap w (x *ℤ y) ≡ int_wrap w (int_wrap w x *ℤ int_wrap w y)
product_wraps w x y = sym (int_wrap-mul_left w x (int_wrap w y) ∙ int_wrap-mul_right w x y)

-- an operation on the readings of low bits
read_both : (f : ℤ → ℤ → ℤ) (t : IntegerType) (a b : ℕ) → int_wrap (width t) (f (int_wrap (width t) (value t a)) (int_wrap (width t) (value t b))) ≡ int_wrap (width t) (f (signed_bits t a) (signed_bits t b))
read_both f t a b = ap (λ u. int_wrap (width t) (f u (int_wrap (width t) (value t b)))) (value_wraps t a) ∙ ap (λ u. int_wrap (width t) (f (signed_bits t a) u)) (value_wraps t b)

low_sum : (w : Width) (a b : ℕ) → (a % 2 ^ bits w + b % 2 ^ bits w) % 2 ^ bits w ≡ (a + b) % 2 ^ bits w
low_sum w8 a b = omega arith
low_sum w16 a b = omega arith
low_sum w32 a b = omega arith
low_sum w64 a b = omega arith
low_sum w128 a b = omega arith

low_difference : (w : Width) (a b : ℕ) → bits w ≤ 64 → b < 2 ^ 64 → (a % 2 ^ bits w + (2 ^ bits w - b % 2 ^ bits w)) % 2 ^ bits w ≡ (a + (2 ^ 64 - b)) % 2 ^ bits w
low_difference w8 a b narrow small = omega arith
low_difference w16 a b narrow small = omega arith
low_difference w32 a b narrow small = omega arith
low_difference w64 a b narrow small = omega arith
low_difference w128 a b narrow small = absurd (omega arith)

-- ---- the words

pub word-sum : (t : IntegerType) (a b : ℕ) → word t (value t a +ℤ value t b) ≡ extension t (a + b)
word-sum t a b =
    let w = width t in
    extension-same t _ (a + b) (low_of w _ (a + b) (narrow t)
    (sum_wraps w (value t a) (value t b) ∙ read_both (λ x y. x +ℤ y) t a b
    ∙ sym (wrapping_add-bits w (low_bits t a) (low_bits t b) (low_bits-below t a) (low_bits-below t b))
    ∙ ap (cast_signed w) (low_sum w a b)))

pub word-difference : (t : IntegerType) (a b : ℕ) → b < 2 ^ 64 → word t (value t a -ℤ value t b) ≡ extension t (a + (2 ^ 64 - b))
word-difference t a b small =
    let w = width t in
    extension-same t _ (a + (2 ^ 64 - b)) (low_of w _ (a + (2 ^ 64 - b)) (narrow t)
    (difference_wraps w (value t a) (value t b) ∙ read_both (λ x y. x -ℤ y) t a b
    ∙ sym (wrapping_sub-bits w (low_bits t a) (low_bits t b) (low_bits-below t a) (low_bits-below t b))
    ∙ ap (cast_signed w) (low_difference w a b (narrow t) small)))

pub word-product : (t : IntegerType) (a b : ℕ) → word t (value t a *ℤ value t b) ≡ extension t (a * b)
word-product t a b =
    let w = width t in
    extension-same t _ (a * b) (low_of w _ (a * b) (narrow t)
    (product_wraps w (value t a) (value t b) ∙ read_both (λ x y. x *ℤ y) t a b
    ∙ sym (wrapping_mul-bits w (low_bits t a) (low_bits t b) (low_bits-below t a) (low_bits-below t b))
    ∙ ap (cast_signed w) (sym (mul-mod a b (2 ^ bits w)))))

-- a negation is a difference from zero
from_zero : (z : ℤ) → pos 0 -ℤ z ≡ neg_ℤ z
from_zero z = omega (arith, ints)

pub value-zero : (t : IntegerType) → value t 0 ≡ pos 0
value-zero Char = refl
value-zero UnsignedChar = refl
value-zero Short = refl
value-zero UnsignedShort = refl
value-zero Int = refl
value-zero UnsignedInt = refl
value-zero Long = refl
value-zero UnsignedLong = refl

pub word-negation : (t : IntegerType) (a : ℕ) → a < 2 ^ 64 → word t (neg_ℤ (value t a)) ≡ extension t (2 ^ 64 - a)
word-negation t a small =
    ap (word t) (sym (from_zero (value t a)) ∙ ap (λ u. u -ℤ value t a) (sym (value-zero t)))
    ∙ word-difference t 0 a small
    ∙ ap (extension t) (omega arith)
