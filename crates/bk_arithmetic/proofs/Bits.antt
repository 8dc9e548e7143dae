-- The operators on bits. Of words of a type they give words of the type: a word has, from its sign on, the bit of the
-- sign, and what is done to the bits is done to that one too.
use Rattle.std.proofs.Common.{◌≡◌, ℕ, ◌+◌, ◌-◌, ◌*◌, ◌/◌, ◌%◌, ◌^◌, ◌<◌, ◌≤◌, min, max, suc, ℤ, pos, negsuc, Bool, true, false, cond, ltb, bit_and, bit_or, ◌⊎◌, inl, inr, refl, sym, ap, ◌∙◌, arith}
use Rattle.std.specs.Prelude.{bit_xor}
use Rattle.std.specs.Int.{bit_at, w64, cast_unsigned}
use Rattle.std.proofs.lemmas.Nat.{and_le_l, or_lt, xor_lt, and_mod, or_mod, xor_mod, div-add-mod'}
use Rattle.std.proofs.lemmas.Nat.Bits.{bit_at_and, bit_at_or, bit_at_xor, bit_at-zero, bit_at_ones, same_from_bits_below, bit_at_cat_low, bit_at_cat_high}
use Rattle.std.proofs.lemmas.Bool.{ltb-true, ltb-false}
use Rattle.bk_arithmetic.specs.declared.integer_type.IntegerType.{IntegerType}
use Rattle.bk_arithmetic.specs.declared.integer_type.IntegerType.TheVariants.{Char, UnsignedChar, Short, UnsignedShort, Int, UnsignedInt, Long, UnsignedLong}
use Rattle.bk_arithmetic.specs.Words.{low_bits, sign_extension, extension}
use Rattle.bk_arithmetic.proofs.LowBits.{low_bits-below, signed_small}

-- ---- where the sign stands in a word

-- l has w bits, of which the highest is 0 and nothing stands above them, or it is 1 and ones stand above them
record Spreads (w l h : ℕ) : Type 0 where
  sign : ((h ≡ 0) × (bit_at l (w - 1) ≡ 0)) ⊎ ((h ≡ 2 ^ (64 - w) - 1) × (bit_at l (w - 1) ≡ 1))

above : (w l h i : ℕ) → Spreads w l h → w ≤ i → i < 64 → bit_at h (i - w) ≡ bit_at l (w - 1)
above w l h i s from to = at_sign s.sign
  where
    at_sign : ((h ≡ 0) × (bit_at l (w - 1) ≡ 0)) ⊎ ((h ≡ 2 ^ (64 - w) - 1) × (bit_at l (w - 1) ≡ 1)) → bit_at h (i - w) ≡ bit_at l (w - 1)
    at_sign (inl (none, low)) = ap (λ k. bit_at k (i - w)) none ∙ bit_at-zero (i - w) ∙ sym low
    at_sign (inr (ones, high)) = ap (λ k. bit_at k (i - w)) ones ∙ bit_at_ones (64 - w) (i - w) (omega arith) ∙ sym high

-- the bit at a place of the word is that of l at the place, or at the sign
spread_bit : (w l h i : ℕ) → 0 < w → l < 2 ^ w → Spreads w l h → i < 64 → bit_at (h * 2 ^ w + l) i ≡ bit_at l (min i (w - 1))
spread_bit w l h i some small s to = at_place (ltb i w) refl
  where
    at_place : (b : Bool) → ltb i w ≡ b → bit_at (h * 2 ^ w + l) i ≡ bit_at l (min i (w - 1))
    at_place true e = let low : i < w = ltb-true i w e in bit_at_cat_low h w l i low ∙ ap (bit_at l) (omega arith)
    at_place false e =
        let high : w ≤ i = ltb-false i w e in
        bit_at_cat_high h w l i small high ∙ above w l h i s high to ∙ ap (bit_at l) (omega arith)

-- the low bits of a number are its bits
low_bit : (n w i : ℕ) → i < w → bit_at (n % 2 ^ w) i ≡ bit_at n i
low_bit n w i low = sym (bit_at_cat_low (n / 2 ^ w) w (n % 2 ^ w) i low) ∙ ap (λ m. bit_at m i) (div-add-mod' n (2 ^ w))

-- ---- signed words, by their parts

parts_8 : (l : ℕ) (b : Bool) → ltb l (2 ^ 7) ≡ b → l < 2 ^ 8 → (h : ℕ) × (Spreads 8 l h × (cast_unsigned w64 (cond b (pos l) (negsuc (2 ^ 8 - suc l))) ≡ h * 2 ^ 8 + l))
parts_8 l true e small = let low : l < 2 ^ 7 = ltb-true l (2 ^ 7) e in (0, (record { sign = inl (refl, omega arith) }, omega arith))
parts_8 l false e small = let high : 2 ^ 7 ≤ l = ltb-false l (2 ^ 7) e in (2 ^ 56 - 1, (record { sign = inr (refl, omega arith) }, omega arith))

parts_16 : (l : ℕ) (b : Bool) → ltb l (2 ^ 15) ≡ b → l < 2 ^ 16 → (h : ℕ) × (Spreads 16 l h × (cast_unsigned w64 (cond b (pos l) (negsuc (2 ^ 16 - suc l))) ≡ h * 2 ^ 16 + l))
parts_16 l true e small = let low : l < 2 ^ 15 = ltb-true l (2 ^ 15) e in (0, (record { sign = inl (refl, omega arith) }, omega arith))
parts_16 l false e small = let high : 2 ^ 15 ≤ l = ltb-false l (2 ^ 15) e in (2 ^ 48 - 1, (record { sign = inr (refl, omega arith) }, omega arith))

parts_32 : (l : ℕ) (b : Bool) → ltb l (2 ^ 31) ≡ b → l < 2 ^ 32 → (h : ℕ) × (Spreads 32 l h × (cast_unsigned w64 (cond b (pos l) (negsuc (2 ^ 32 - suc l))) ≡ h * 2 ^ 32 + l))
parts_32 l true e small = let low : l < 2 ^ 31 = ltb-true l (2 ^ 31) e in (0, (record { sign = inl (refl, omega arith) }, omega arith))
parts_32 l false e small = let high : 2 ^ 31 ≤ l = ltb-false l (2 ^ 31) e in (2 ^ 32 - 1, (record { sign = inr (refl, omega arith) }, omega arith))

-- a word whose bits are those of a number up to a place, and the one at the place from there on
record SignedBits (place n word : ℕ) : Type 0 where
  small : word < 2 ^ 64
  bit : (i : ℕ) → i < 64 → bit_at word i ≡ bit_at n (min i place)

of_parts : (w n word : ℕ) → 0 < w → n % 2 ^ w < 2 ^ w → word < 2 ^ 64 → (h : ℕ) × (Spreads w (n % 2 ^ w) h × (word ≡ h * 2 ^ w + n % 2 ^ w)) → SignedBits (w - 1) n word
of_parts w n word some small fits (h, (spreads, is)) = record {
  small = fits;
  bit = λ i to. ap (λ m. bit_at m i) is ∙ spread_bit w (n % 2 ^ w) h i some small spreads to ∙ low_bit n w (min i (w - 1)) (omega arith);
}

signed_char : (n : ℕ) → SignedBits 7 n (extension Char n)
signed_char n = of_parts 8 n _ (omega arith) (low_bits-below Char n) (signed_small Char n) (parts_8 (n % 2 ^ 8) (ltb (n % 2 ^ 8) (2 ^ 7)) refl (low_bits-below Char n))

signed_short : (n : ℕ) → SignedBits 15 n (extension Short n)
signed_short n = of_parts 16 n _ (omega arith) (low_bits-below Short n) (signed_small Short n) (parts_16 (n % 2 ^ 16) (ltb (n % 2 ^ 16) (2 ^ 15)) refl (low_bits-below Short n))

signed_int : (n : ℕ) → SignedBits 31 n (extension Int n)
signed_int n = of_parts 32 n _ (omega arith) (low_bits-below Int n) (signed_small Int n) (parts_32 (n % 2 ^ 32) (ltb (n % 2 ^ 32) (2 ^ 31)) refl (low_bits-below Int n))

-- ---- an operator on bits

-- an operator that does the same to the bits of each place
pub record OnBits (op : ℕ → ℕ → ℕ) (bit : ℕ → ℕ → ℕ) : Type 0 where
  pub at : (a b i : ℕ) → bit_at (op a b) i ≡ bit (bit_at a i) (bit_at b i)
  pub low : (a b k : ℕ) → op a b % 2 ^ k ≡ op (a % 2 ^ k) (b % 2 ^ k)
  pub small : (a b : ℕ) → a < 2 ^ 64 → b < 2 ^ 64 → op a b < 2 ^ 64

module _ (op bit : ℕ → ℕ → ℕ) (o : OnBits op bit) where
  -- of words with a sign
  signed_op : (place a b m n r : ℕ) → SignedBits place a m → SignedBits place b n → SignedBits place (op m n) r → r ≡ op m n
  signed_op place a b m n r x y z = same_from_bits_below 64 r (op m n) z.small (o.small m n x.small y.small) (λ i to.
      z.bit i to ∙ o.at m n (min i place)
      ∙ ap (λ u. bit u (bit_at n (min i place))) (twice place a m i x to)
      ∙ ap (λ u. bit (bit_at m i) u) (twice place b n i y to)
      ∙ sym (o.at m n i))
    where
      twice : (place a m i : ℕ) → SignedBits place a m → i < 64 → bit_at m (min i place) ≡ bit_at m i
      twice place a m i x to = x.bit (min i place) (omega arith) ∙ ap (bit_at a) (omega arith) ∙ sym (x.bit i to)

  -- of words that are their low bits
  low_op : (k a b : ℕ) → (n : ℕ) → op (a % 2 ^ k) (b % 2 ^ k) ≡ n → (a % 2 ^ k % 2 ^ k ≡ a % 2 ^ k) → (b % 2 ^ k % 2 ^ k ≡ b % 2 ^ k) → n % 2 ^ k ≡ n
  low_op k a b n is first second =
      ap (λ m. m % 2 ^ k) (sym is) ∙ o.low (a % 2 ^ k) (b % 2 ^ k) k ∙ ap (λ u. op u (b % 2 ^ k % 2 ^ k)) first ∙ ap (λ u. op (a % 2 ^ k) u) second ∙ is

  pub words_op : (t : IntegerType) (a b : ℕ) → extension t (op (extension t a) (extension t b)) ≡ op (extension t a) (extension t b)
  words_op Char a b = signed_op 7 a b _ _ _ (signed_char a) (signed_char b) (signed_char (op (extension Char a) (extension Char b)))
  words_op UnsignedChar a b = low_op 8 a b _ refl (omega arith) (omega arith)
  words_op Short a b = signed_op 15 a b _ _ _ (signed_short a) (signed_short b) (signed_short (op (extension Short a) (extension Short b)))
  words_op UnsignedShort a b = low_op 16 a b _ refl (omega arith) (omega arith)
  words_op Int a b = signed_op 31 a b _ _ _ (signed_int a) (signed_int b) (signed_int (op (extension Int a) (extension Int b)))
  words_op UnsignedInt a b = signed_op 31 a b _ _ _ (signed_int a) (signed_int b) (signed_int (op (extension Int a) (extension Int b)))
  words_op Long a b = low_op 64 a b _ refl (omega arith) (omega arith)
  words_op UnsignedLong a b = low_op 64 a b _ refl (omega arith) (omega arith)

below_64 : (a b : ℕ) → a < 2 ^ 64 → b < 2 ^ 64 → bit_and a b < 2 ^ 64
below_64 a b x y = omega (arith, and_le_l a b)

pub conjunction-words : (t : IntegerType) (a b : ℕ) → extension t (bit_and (extension t a) (extension t b)) ≡ bit_and (extension t a) (extension t b)
conjunction-words = words_op bit_and min (record { at = bit_at_and; low = and_mod; small = below_64 })

pub disjunction-words : (t : IntegerType) (a b : ℕ) → extension t (bit_or (extension t a) (extension t b)) ≡ bit_or (extension t a) (extension t b)
disjunction-words = words_op bit_or max (record { at = bit_at_or; low = or_mod; small = or_lt 64 })

pub exclusive-words : (t : IntegerType) (a b : ℕ) → extension t (bit_xor (extension t a) (extension t b)) ≡ bit_xor (extension t a) (extension t b)
exclusive-words = words_op bit_xor (λ u v. (u + v) % 2) (record { at = bit_at_xor; low = xor_mod; small = xor_lt 64 })
