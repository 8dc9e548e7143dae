-- Values and words: a value fits its type, its word gives it back, and every number that fits is such a value.
use Rattle.std.proofs.Common.{◌≡◌, ℕ, ◌-◌, ◌%◌, ◌^◌, ◌<◌, ◌≤◌, ℤ, pos, negsuc, ◌≤ℤ◌, true, ap, ◌∙◌, arith}
use Rattle.std.specs.Int.{Width, w8, w16, w32, w64, w128, cast_signed, cast_unsigned}
use Rattle.std.specs.Int.RustNames.{FitsSigned}
use Rattle.std.proofs.lemmas.Int.{ints, to_z-of_z}
use Rattle.std.proofs.lemmas.Bool.Decides.{nat_tests}
use Rattle.std.proofs.Math.Facts.{sfits_to_z}
use mir.Val.{bits}
use Rattle.bk_arithmetic.specs.declared.integer_type.IntegerType.{IntegerType}
use Rattle.bk_arithmetic.specs.declared.integer_type.IntegerType.TheVariants.{Char, UnsignedChar, Short, UnsignedShort, Int, UnsignedInt, Long, UnsignedLong}
use Rattle.bk_arithmetic.specs.IntegerTypes.{width, fits}
use Rattle.bk_arithmetic.specs.Words.{low_bits, signed_bits, value, extension, residue, word}
use Rattle.bk_arithmetic.proofs.LowBits.{low_bits-below, low_bits-extension, extension-same, sign_extension-low, narrow}
use Rattle.bk_arithmetic.proofs.Fits.{fits-least, fits-greatest, residue-fits}

-- ---- a value fits

pub signed_fits : (t : IntegerType) (n : ℕ) → FitsSigned (width t) (signed_bits t n)
signed_fits t n = sfits_to_z {w = width t} {n = low_bits t n} (record { fits = low_bits-below t n })

fits_char : (z : ℤ) → FitsSigned w8 z → fits Char z ≡ true
fits_char (pos n) f = let small : n < 2 ^ 7 = f.sfits in grind (arith, nat_tests)
fits_char (negsuc n) f = let small : n < 2 ^ 7 = f.sfits in grind (arith, nat_tests)

fits_short : (z : ℤ) → FitsSigned w16 z → fits Short z ≡ true
fits_short (pos n) f = let small : n < 2 ^ 15 = f.sfits in grind (arith, nat_tests)
fits_short (negsuc n) f = let small : n < 2 ^ 15 = f.sfits in grind (arith, nat_tests)

fits_int : (z : ℤ) → FitsSigned w32 z → fits Int z ≡ true
fits_int (pos n) f = let small : n < 2 ^ 31 = f.sfits in grind (arith, nat_tests)
fits_int (negsuc n) f = let small : n < 2 ^ 31 = f.sfits in grind (arith, nat_tests)

pub fits_long : (z : ℤ) → FitsSigned w64 z → fits Long z ≡ true
fits_long (pos n) f = let small : n < 2 ^ 63 = f.sfits in grind (arith, nat_tests)
fits_long (negsuc n) f = let small : n < 2 ^ 63 = f.sfits in grind (arith, nat_tests)

pub fits-value : (t : IntegerType) (n : ℕ) → fits t (value t n) ≡ true
fits-value Char n = fits_char (signed_bits Char n) (signed_fits Char n)
fits-value UnsignedChar n = let small : n % 2 ^ 8 < 2 ^ 8 = low_bits-below UnsignedChar n in grind (arith, nat_tests)
fits-value Short n = fits_short (signed_bits Short n) (signed_fits Short n)
fits-value UnsignedShort n = let small : n % 2 ^ 16 < 2 ^ 16 = low_bits-below UnsignedShort n in grind (arith, nat_tests)
fits-value Int n = fits_int (signed_bits Int n) (signed_fits Int n)
fits-value UnsignedInt n = let small : n % 2 ^ 32 < 2 ^ 32 = low_bits-below UnsignedInt n in grind (arith, nat_tests)
fits-value Long n = fits_long (signed_bits Long n) (signed_fits Long n)
fits-value UnsignedLong n = let small : n % 2 ^ 64 < 2 ^ 64 = low_bits-below UnsignedLong n in grind (arith, nat_tests)

-- ---- what fits is read back from its word

-- the low bits of a number, as many as the type has
low_at : (t : IntegerType) (z : ℤ) → low_bits t (word t z) ≡ low_bits t (residue z)
low_at t z = low_bits-extension t (residue z)

signed_back : (w : Width) (z : ℤ) (n : ℕ) → FitsSigned w z → n ≡ cast_unsigned w z → cast_signed w n ≡ z
signed_back w z n f e = ap (cast_signed w) e ∙ to_z-of_z w z f

bounds_8 : (z : ℤ) → negsuc (2 ^ 7 - 1) ≤ℤ z → z ≤ℤ pos (2 ^ 7 - 1) → FitsSigned w8 z × (residue z % 2 ^ 8 ≡ cast_unsigned w8 z)
bounds_8 (pos n) low high = (record { sfits = omega (arith, ints) }, omega (arith, ints))
bounds_8 (negsuc n) low high = (record { sfits = omega (arith, ints) }, omega (arith, ints))

bounds_16 : (z : ℤ) → negsuc (2 ^ 15 - 1) ≤ℤ z → z ≤ℤ pos (2 ^ 15 - 1) → FitsSigned w16 z × (residue z % 2 ^ 16 ≡ cast_unsigned w16 z)
bounds_16 (pos n) low high = (record { sfits = omega (arith, ints) }, omega (arith, ints))
bounds_16 (negsuc n) low high = (record { sfits = omega (arith, ints) }, omega (arith, ints))

bounds_32 : (z : ℤ) → negsuc (2 ^ 31 - 1) ≤ℤ z → z ≤ℤ pos (2 ^ 31 - 1) → FitsSigned w32 z × (residue z % 2 ^ 32 ≡ cast_unsigned w32 z)
bounds_32 (pos n) low high = (record { sfits = omega (arith, ints) }, omega (arith, ints))
bounds_32 (negsuc n) low high = (record { sfits = omega (arith, ints) }, omega (arith, ints))

bounds_64 : (z : ℤ) → negsuc (2 ^ 63 - 1) ≤ℤ z → z ≤ℤ pos (2 ^ 63 - 1) → FitsSigned w64 z × (residue z % 2 ^ 64 ≡ cast_unsigned w64 z)
bounds_64 (pos n) low high = (record { sfits = omega (arith, ints) }, omega (arith, ints))
bounds_64 (negsuc n) low high = (record { sfits = omega (arith, ints) }, omega (arith, ints))

unsigned_8 : (z : ℤ) → pos 0 ≤ℤ z → z ≤ℤ pos (2 ^ 8 - 1) → pos (residue z % 2 ^ 8) ≡ z
unsigned_8 (pos n) low high = let e : n % 2 ^ 64 % 2 ^ 8 ≡ n = omega (arith, ints) in ap pos e
unsigned_8 (negsuc n) low high = absurd (omega (arith, ints))

unsigned_16 : (z : ℤ) → pos 0 ≤ℤ z → z ≤ℤ pos (2 ^ 16 - 1) → pos (residue z % 2 ^ 16) ≡ z
unsigned_16 (pos n) low high = let e : n % 2 ^ 64 % 2 ^ 16 ≡ n = omega (arith, ints) in ap pos e
unsigned_16 (negsuc n) low high = absurd (omega (arith, ints))

unsigned_32 : (z : ℤ) → pos 0 ≤ℤ z → z ≤ℤ pos (2 ^ 32 - 1) → pos (residue z % 2 ^ 32) ≡ z
unsigned_32 (pos n) low high = let e : n % 2 ^ 64 % 2 ^ 32 ≡ n = omega (arith, ints) in ap pos e
unsigned_32 (negsuc n) low high = absurd (omega (arith, ints))

unsigned_64 : (z : ℤ) → pos 0 ≤ℤ z → z ≤ℤ pos (2 ^ 64 - 1) → pos (residue z % 2 ^ 64) ≡ z
unsigned_64 (pos n) low high = let e : n % 2 ^ 64 % 2 ^ 64 ≡ n = omega (arith, ints) in ap pos e
unsigned_64 (negsuc n) low high = absurd (omega (arith, ints))

pub value-word : (t : IntegerType) (z : ℤ) → fits t z ≡ true → value t (word t z) ≡ z
value-word Char z e = let b = bounds_8 z (fits-least Char z e) (fits-greatest Char z e) in signed_back w8 z _ b.0 (low_at Char z ∙ b.1)
value-word UnsignedChar z e = ap pos (low_at UnsignedChar z) ∙ unsigned_8 z (fits-least UnsignedChar z e) (fits-greatest UnsignedChar z e)
value-word Short z e = let b = bounds_16 z (fits-least Short z e) (fits-greatest Short z e) in signed_back w16 z _ b.0 (low_at Short z ∙ b.1)
value-word UnsignedShort z e = ap pos (low_at UnsignedShort z) ∙ unsigned_16 z (fits-least UnsignedShort z e) (fits-greatest UnsignedShort z e)
value-word Int z e = let b = bounds_32 z (fits-least Int z e) (fits-greatest Int z e) in signed_back w32 z _ b.0 (low_at Int z ∙ b.1)
value-word UnsignedInt z e = ap pos (low_at UnsignedInt z) ∙ unsigned_32 z (fits-least UnsignedInt z e) (fits-greatest UnsignedInt z e)
value-word Long z e = let b = bounds_64 z (fits-least Long z e) (fits-greatest Long z e) in signed_back w64 z _ b.0 (low_at Long z ∙ b.1)
value-word UnsignedLong z e = ap pos (low_at UnsignedLong z) ∙ unsigned_64 z (fits-least UnsignedLong z e) (fits-greatest UnsignedLong z e)

-- ---- the word of a value

-- a number of a narrow width is one of 64 bits
pub widened_fits : (w : Width) (z : ℤ) → bits w ≤ 64 → FitsSigned w z → FitsSigned w64 z
widened_fits w8 z narrow f = record { sfits = omega (arith, f.sfits) }
widened_fits w16 z narrow f = record { sfits = omega (arith, f.sfits) }
widened_fits w32 z narrow f = record { sfits = omega (arith, f.sfits) }
widened_fits w64 z narrow f = f
widened_fits w128 z narrow f = absurd (omega arith)

signed_value_low : (t : IntegerType) (n : ℕ) → low_bits t (residue (signed_bits t n)) ≡ low_bits t n
signed_value_low t n =
    ap (low_bits t) (residue-fits (signed_bits t n) (widened_fits (width t) (signed_bits t n) (narrow t) (signed_fits t n))) ∙ sign_extension-low t n

pub low_bits-value : (t : IntegerType) (n : ℕ) → low_bits t (residue (value t n)) ≡ low_bits t n
low_bits-value Char n = signed_value_low Char n
low_bits-value UnsignedChar n = omega arith
low_bits-value Short n = signed_value_low Short n
low_bits-value UnsignedShort n = omega arith
low_bits-value Int n = signed_value_low Int n
low_bits-value UnsignedInt n = omega arith
low_bits-value Long n = signed_value_low Long n
low_bits-value UnsignedLong n = omega arith

pub word-value : (t : IntegerType) (n : ℕ) → word t (value t n) ≡ extension t n
word-value t n = extension-same t (residue (value t n)) n (low_bits-value t n)
