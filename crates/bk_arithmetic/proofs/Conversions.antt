-- Conversions: to the same type, to a narrower one, to one that has the value, and two in a row.
use Rattle.std.proofs.Common.{◌≡◌, ℕ, ◌+◌, ◌-◌, ◌*◌, ◌/◌, ◌%◌, ◌^◌, ◌≤◌, ℤ, ◌≤ℤ◌, Bool, true, false, refl, sym, ap, ◌∙◌, arith}
use Rattle.std.specs.Prelude.{int_le}
use Rattle.std.specs.Bool.{passes}
use Rattle.std.proofs.lemmas.Nat.{mod-pow-add, mod_low, mod_below, pow_pos}
use Rattle.std.proofs.lemmas.Bool.{and_parts, and_from}
use Rattle.std.proofs.lemmas.Int.{ints}
use lib.Signed.{le_z_yes}
use lib.Dec.{T}
use mir.Val.{bits}
use Rattle.bk_arithmetic.specs.declared.integer_type.IntegerType.{IntegerType}
use Rattle.bk_arithmetic.specs.declared.integer_type.IntegerType.TheVariants.{Char, UnsignedChar, Short, UnsignedShort, Int, UnsignedInt, Long, UnsignedLong}
use Rattle.bk_arithmetic.specs.IntegerTypes.{width, bytes, least, greatest, fits, promote}
use Rattle.bk_arithmetic.specs.Words.{low_bits, value, extension, residue, word}
use Rattle.bk_arithmetic.specs.Operations.{conversion}
use Rattle.bk_arithmetic.proofs.LowBits.{low_bits-extension, extension-same}
use Rattle.bk_arithmetic.proofs.Values.{fits-value, value-word, low_bits-value, word-value}

-- ---- fewer low bits

low_again : (n j k : ℕ) → n % 2 ^ (j + k) % 2 ^ k ≡ n % 2 ^ k
low_again n j k = ap (λ m. m % 2 ^ k) (mod-pow-add n j k) ∙ mod_low (n / 2 ^ k % 2 ^ j) k (n % 2 ^ k) (mod_below n (2 ^ k) (pow_pos k))

low_fewer : (n w k : ℕ) → k ≤ w → n % 2 ^ w % 2 ^ k ≡ n % 2 ^ k
low_fewer n w k less = let e : w ≡ (w - k) + k = omega arith in ap (λ u. n % 2 ^ u % 2 ^ k) e ∙ low_again n (w - k) k

fewer_same : (t u : IntegerType) (n m : ℕ) → bits (width t) ≤ bits (width u) → low_bits u n ≡ low_bits u m → low_bits t n ≡ low_bits t m
fewer_same t u n m less e =
    sym (low_fewer n (bits (width u)) (bits (width t)) less) ∙ ap (low_bits t) e ∙ low_fewer m (bits (width u)) (bits (width t)) less

bits-bytes : (t : IntegerType) → bits (width t) ≡ 8 * bytes t
bits-bytes Char = refl
bits-bytes UnsignedChar = refl
bits-bytes Short = refl
bits-bytes UnsignedShort = refl
bits-bytes Int = refl
bits-bytes UnsignedInt = refl
bits-bytes Long = refl
bits-bytes UnsignedLong = refl

fewer_bits : (t u : IntegerType) → bytes t ≤ bytes u → bits (width t) ≤ bits (width u)
fewer_bits t u less = eight (bits (width t)) (bits (width u)) (bytes t) (bytes u) (bits-bytes t) (bits-bytes u) less
  where
    eight : (m n k l : ℕ) → m ≡ 8 * k → n ≡ 8 * l → k ≤ l → m ≤ n
    eight m n k l e f h = omega arith

-- ---- conversions

pub conversion-same : (t : IntegerType) (n : ℕ) → conversion t t n ≡ extension t n
conversion-same t n = word-value t n

pub conversion-narrower : (s t : IntegerType) (n : ℕ) → bytes t ≤ bytes s → conversion s t n ≡ extension t n
conversion-narrower s t n less = extension-same t (residue (value s n)) n (fewer_same t s (residue (value s n)) n (fewer_bits t s less) (low_bits-value s n))

pub value-conversion : (s t : IntegerType) (n : ℕ) → fits t (value s n) ≡ true → value t (conversion s t n) ≡ value s n
value-conversion s t n e = value-word t (value s n) e

pub conversion-through_wide : (s t u : IntegerType) (n : ℕ) → bytes u ≤ bytes t → conversion t u (conversion s t n) ≡ conversion s u n
conversion-through_wide s t u n less =
    let r = residue (value s n) in
    let first : conversion t u (conversion s t n) ≡ extension u (extension t r) = conversion-narrower t u (extension t r) less in
    first ∙ extension-same u (extension t r) r (fewer_same u t (extension t r) r (fewer_bits u t less) (low_bits-extension t r))

pub conversion-through_all : (s t u : IntegerType) (n : ℕ) → fits t (value s n) ≡ true → conversion t u (conversion s t n) ≡ conversion s u n
conversion-through_all s t u n e = ap (word u) (value-conversion s t n e)

holds : (b : Bool) → T b → b ≡ true
holds true t = refl
holds false t = absurd t

-- what fits a type fits one whose range has the range of the first
pub fits-wider : (t u : IntegerType) (z : ℤ) → fits t z ≡ true → (least t ≤ℤ z → least u ≤ℤ z) → (z ≤ℤ greatest t → z ≤ℤ greatest u) → fits u z ≡ true
fits-wider t u z e low high =
    let parts = and_parts (int_le (least t) z) (int_le z (greatest t)) e in
    and_from (int_le (least u) z) (int_le z (greatest u))
    (holds _ (low (le_z_yes (passes _ parts.0))).le)
    (holds _ (high (le_z_yes (passes _ parts.1))).le)

fits-promote : (t : IntegerType) (z : ℤ) → fits t z ≡ true → fits (promote t) z ≡ true
fits-promote Char z e = fits-wider Char Int z e (λ l. omega (arith, ints)) (λ h. omega (arith, ints))
fits-promote UnsignedChar z e = fits-wider UnsignedChar Int z e (λ l. omega (arith, ints)) (λ h. omega (arith, ints))
fits-promote Short z e = fits-wider Short Int z e (λ l. omega (arith, ints)) (λ h. omega (arith, ints))
fits-promote UnsignedShort z e = fits-wider UnsignedShort Int z e (λ l. omega (arith, ints)) (λ h. omega (arith, ints))
fits-promote Int z e = e
fits-promote UnsignedInt z e = e
fits-promote Long z e = e
fits-promote UnsignedLong z e = e

pub value-promotion : (t : IntegerType) (n : ℕ) → value (promote t) (conversion t (promote t) n) ≡ value t n
value-promotion t n = value-conversion t (promote t) n (fits-promote t (value t n) (fits-value t n))
