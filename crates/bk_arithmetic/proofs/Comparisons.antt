-- Comparisons of words: equality and order by the words themselves.
use Rattle.std.proofs.Common.{◌≡◌, ℕ, ◌-◌, ◌%◌, ◌^◌, ◌<◌, ◌≤◌, suc, pos, negsuc, Bool, true, false, cond, ltb, refl, sym, ap, ◌∙◌, eq-eqb, eqb-true, arith}
use Rattle.std.specs.Prelude.{◌==◌}
use Rattle.std.specs.Int.{w64, cast_signed, cast_unsigned}
use Rattle.std.proofs.lemmas.Int.{to_z-of_z}
use Rattle.std.proofs.lemmas.Bool.Decides.{nat_tests}
use Rattle.std.proofs.lemmas.Bool.{ltb-false}
use Rattle.bk_arithmetic.specs.declared.integer_type.IntegerType.{IntegerType}
use Rattle.bk_arithmetic.specs.declared.integer_type.IntegerType.TheVariants.{Char, UnsignedChar, Short, UnsignedShort, Int, UnsignedInt, Long, UnsignedLong}
use Rattle.bk_arithmetic.specs.IntegerTypes.{width, is_signed}
use Rattle.bk_arithmetic.specs.Words.{low_bits, signed_bits, value, extension, residue, sign_extension}
use Rattle.bk_arithmetic.specs.Operations.{is_equal, is_less}
use Rattle.bk_arithmetic.proofs.LowBits.{low_bits-extension, extension-same, value-same, value-extension, low_bits-below, signed_small, narrow}
use Rattle.bk_arithmetic.proofs.Values.{low_bits-value, signed_fits, widened_fits}

pub equal-value : (t : IntegerType) (a b : ℕ) → is_equal t a b ≡ true → value t a ≡ value t b
equal-value t a b e = value-same t a b (eqb-true (low_bits t a) (low_bits t b) e)

pub value-equal : (t : IntegerType) (a b : ℕ) → value t a ≡ value t b → is_equal t a b ≡ true
value-equal t a b e = eq-eqb (low_bits t a) (low_bits t b) (sym (low_bits-value t a) ∙ ap (λ z. low_bits t (residue z)) e ∙ low_bits-value t b)

-- two tests that hold together are one
same_test : (p q : Bool) → (p ≡ true → q ≡ true) → (q ≡ true → p ≡ true) → p ≡ q
same_test true q h k = sym (h refl)
same_test false true h k = k refl
same_test false false h k = refl

pub equal-words : (t : IntegerType) (a b : ℕ) → is_equal t a b ≡ (extension t a == extension t b)
equal-words t a b =
    same_test (is_equal t a b) (extension t a == extension t b)
    (λ e. eq-eqb (extension t a) (extension t b) (extension-same t a b (eqb-true (low_bits t a) (low_bits t b) e)))
    (λ e. eq-eqb (low_bits t a) (low_bits t b) (sym (low_bits-extension t a) ∙ ap (low_bits t) (eqb-true (extension t a) (extension t b) e) ∙ low_bits-extension t b))

impossible : false ≡ true → ⊥
impossible e = cc

contrary : true ≡ false → ⊥
contrary e = cc

small_word : (m : ℕ) → m < 2 ^ 64 → m % 2 ^ 64 ≡ m
small_word m h = omega arith

-- the word of a signed type reads as its value among words of 64 bits too
signed_word : (t : IntegerType) (n : ℕ) → cast_signed w64 (sign_extension t n % 2 ^ 64) ≡ signed_bits t n
signed_word t n =
    ap (cast_signed w64) (small_word (sign_extension t n) (signed_small t n))
    ∙ to_z-of_z w64 (signed_bits t n) (widened_fits (width t) (signed_bits t n) (narrow t) (signed_fits t n))

pub value-long : (t : IntegerType) (n : ℕ) → is_signed t ≡ true → value Long (extension t n) ≡ value t n
value-long Char n s = signed_word Char n
value-long UnsignedChar n s = absurd (impossible s)
value-long Short n s = signed_word Short n
value-long UnsignedShort n s = absurd (impossible s)
value-long Int n s = signed_word Int n
value-long UnsignedInt n s = absurd (impossible s)
value-long Long n s = value-extension Long n
value-long UnsignedLong n s = absurd (impossible s)

-- both words of 4 unsigned bytes have the same sign, or the one that has it is the greater one
less_32 : (m n : ℕ) (b c : Bool) → ltb m (2 ^ 31) ≡ b → ltb n (2 ^ 31) ≡ c → m < 2 ^ 32 → n < 2 ^ 32
    → ltb m n ≡ ltb (cast_unsigned w64 (cond b (pos m) (negsuc (2 ^ 32 - suc m)))) (cast_unsigned w64 (cond c (pos n) (negsuc (2 ^ 32 - suc n))))
less_32 m n true true e f p q = refl
less_32 m n true false e f p q = let high : 2 ^ 31 ≤ n = ltb-false n (2 ^ 31) f in let low : ltb m (2 ^ 31) ≡ true = e in grind (arith, nat_tests)
less_32 m n false true e f p q = let high : 2 ^ 31 ≤ m = ltb-false m (2 ^ 31) e in let low : ltb n (2 ^ 31) ≡ true = f in grind (arith, nat_tests)
less_32 m n false false e f p q = let high : 2 ^ 31 ≤ m = ltb-false m (2 ^ 31) e in let high' : 2 ^ 31 ≤ n = ltb-false n (2 ^ 31) f in grind (arith, nat_tests)

pub less-unsigned : (t : IntegerType) (a b : ℕ) → is_signed t ≡ false → is_less t a b ≡ ltb (extension t a) (extension t b)
less-unsigned Char a b s = absurd (contrary s)
less-unsigned UnsignedChar a b s = refl
less-unsigned Short a b s = absurd (contrary s)
less-unsigned UnsignedShort a b s = refl
less-unsigned Int a b s = absurd (contrary s)
less-unsigned UnsignedInt a b s = less_32 (low_bits UnsignedInt a) (low_bits UnsignedInt b) _ _ refl refl (low_bits-below UnsignedInt a) (low_bits-below UnsignedInt b)
less-unsigned Long a b s = absurd (contrary s)
less-unsigned UnsignedLong a b s = refl
