-- What the code of a conversion makes of a word is what the conversion makes of it.
use Rattle.std.proofs.Common.{◌≡◌, ℕ, ◌+◌, ◌%◌, ◌^◌, ◌<◌, ℤ, pos, negsuc, sym, ap, ◌∙◌, arith}
use Rattle.std.specs.Int.{w8, w16, w32, w64}
use Rattle.std.specs.Int.RustNames.{FitsSigned}
use Rattle.alpha_isa.specs.Arithmetic.{word_from, sign_extension, kept_bytes}
use Rattle.alpha_isa.proofs.Arithmetic.{signed-word_from, kept_bytes-long}
use Rattle.bk_arithmetic.specs.declared.integer_type.IntegerType.{IntegerType}
use Rattle.bk_arithmetic.specs.declared.integer_type.IntegerType.TheVariants.{Char, UnsignedChar, Short, UnsignedShort, Int, UnsignedInt, Long, UnsignedLong}
use Rattle.bk_arithmetic.specs.Words.{value, extension, residue, signed_bits}
use Rattle.bk_arithmetic.specs.Words as words
use Rattle.bk_arithmetic.specs.Operations.{conversion}
use Rattle.bk_arithmetic.proofs.Fits.{residue-fits}
use Rattle.bk_arithmetic.proofs.Values.{signed_fits}
use Rattle.bk_arithmetic.proofs.Conversions.{conversion-same, conversion-narrower}

-- ---- numbers that fit, as words of a wider type

wider : (z : ℤ) → FitsSigned w32 z → FitsSigned w64 z
wider (pos n) f = record { sfits = omega (arith, f.sfits) }
wider (negsuc n) f = record { sfits = omega (arith, f.sfits) }

from_byte : (z : ℤ) → FitsSigned w8 z → FitsSigned w32 z
from_byte (pos n) f = record { sfits = omega (arith, f.sfits) }
from_byte (negsuc n) f = record { sfits = omega (arith, f.sfits) }

from_short : (z : ℤ) → FitsSigned w16 z → FitsSigned w32 z
from_short (pos n) f = record { sfits = omega (arith, f.sfits) }
from_short (negsuc n) f = record { sfits = omega (arith, f.sfits) }

pub long_word : (z : ℤ) → FitsSigned w64 z → residue z % 2 ^ 64 ≡ word_from z
long_word z f = ap (λ n. n % 2 ^ 64) (residue-fits z f) ∙ in_word z f
  where
    in_word : (z : ℤ) → FitsSigned w64 z → word_from z % 2 ^ 64 ≡ word_from z
    in_word (pos n) g = omega (arith, g.sfits)
    in_word (negsuc n) g = omega arith

pub int_word : (z : ℤ) → FitsSigned w32 z → sign_extension w32 (residue z) ≡ word_from z
int_word z f =
    ap (λ n. sign_extension w32 n) (residue-fits z (wider z f)) ∙ ap word_from (signed-word_from w32 z (omega arith) f)

-- the types of registers
pub data IsRegisterType : IntegerType → Type 0 where
  IsInt : IsRegisterType Int
  IsUnsignedInt : IsRegisterType UnsignedInt
  IsLong : IsRegisterType Long
  IsUnsignedLong : IsRegisterType UnsignedLong

word_of : (t : IntegerType) (z : ℤ) → IsRegisterType t → FitsSigned w32 z → words.word t z ≡ word_from z
word_of t z IsInt f = int_word z f
word_of t z IsUnsignedInt f = int_word z f
word_of t z IsLong f = long_word z (wider z f)
word_of t z IsUnsignedLong f = long_word z (wider z f)

-- ---- from each type

pub from_char : (t : IntegerType) (n : ℕ) → IsRegisterType t → sign_extension w8 n ≡ conversion Char t n
from_char t n r = sym (word_of t (value Char n) r (from_byte (value Char n) (signed_fits Char n)))

pub from_short_ : (t : IntegerType) (n : ℕ) → IsRegisterType t → sign_extension w16 n ≡ conversion Short t n
from_short_ t n r = sym (word_of t (value Short n) r (from_short (value Short n) (signed_fits Short n)))

kept_byte : (n : ℕ) → kept_bytes 8 n 1 ≡ n % 2 ^ 8
kept_byte n = omega arith

kept_short : (n : ℕ) → kept_bytes 8 n 3 ≡ n % 2 ^ 16
kept_short n = omega arith

pub from_unsigned_char : (t : IntegerType) (n : ℕ) → IsRegisterType t → kept_bytes 8 n 1 ≡ conversion UnsignedChar t n
from_unsigned_char t n r = kept_byte n ∙ sym (word_of t (pos (n % 2 ^ 8)) r (record { sfits = omega arith }))

pub from_unsigned_short : (t : IntegerType) (n : ℕ) → IsRegisterType t → kept_bytes 8 n 3 ≡ conversion UnsignedShort t n
from_unsigned_short t n r = kept_short n ∙ sym (word_of t (pos (n % 2 ^ 16)) r (record { sfits = omega arith }))

and_nothing : (n : ℕ) → n + 0 ≡ n
and_nothing n = omega arith

pub from_int : (t : IntegerType) (n : ℕ) → IsRegisterType t → sign_extension w32 (n + 0) ≡ conversion Int t n
from_int t n r = ap (λ k. sign_extension w32 k) (and_nothing n) ∙ sym (word_of t (value Int n) r (signed_fits Int n))

pub from_unsigned_narrow : (n : ℕ) → sign_extension w32 (n + 0) ≡ conversion UnsignedInt Int n
from_unsigned_narrow n =
    ap (λ k. sign_extension w32 k) (and_nothing n) ∙ sym (conversion-narrower UnsignedInt Int n (omega arith))

pub from_unsigned_same : (n : ℕ) → sign_extension w32 (n + 0) ≡ conversion UnsignedInt UnsignedInt n
from_unsigned_same n =
    ap (λ k. sign_extension w32 k) (and_nothing n) ∙ sym (conversion-same UnsignedInt n)

low_half : (n : ℕ) → n % 2 ^ 32 ≡ n % 2 ^ 32 % 2 ^ 64 % 2 ^ 64
low_half n = omega arith

pub from_unsigned_long : (n : ℕ) → kept_bytes 8 n 15 ≡ conversion UnsignedInt Long n
from_unsigned_long n = kept_bytes-long n ∙ low_half n

pub from_unsigned_unsigned_long : (n : ℕ) → kept_bytes 8 n 15 ≡ conversion UnsignedInt UnsignedLong n
from_unsigned_unsigned_long n = kept_bytes-long n ∙ low_half n

-- from 8 bytes to 4, and to 8
pub from_wide : (s t : IntegerType) (n : ℕ) → conversion s t n ≡ extension t n → extension t n ≡ sign_extension w32 n → sign_extension w32 (n + 0) ≡ conversion s t n
from_wide s t n narrower is = ap (λ k. sign_extension w32 k) (and_nothing n) ∙ sym (narrower ∙ is)

pub wide_same : (s t : IntegerType) (n : ℕ) → n < 2 ^ 64 → conversion s t n ≡ extension t n → extension t n ≡ n % 2 ^ 64 → n ≡ conversion s t n
wide_same s t n small narrower is = in_word n small ∙ sym (narrower ∙ is)
  where
    in_word : (n : ℕ) → n < 2 ^ 64 → n ≡ n % 2 ^ 64
    in_word n small = omega arith
