-- How words of 64 bits hold values. A word is a number below 2^64. In a type of 8 bytes it is the value modulo 2^64.
-- Both types of 4 bytes have bit 31 in all bits above it, the unsigned one too. A smaller type has its sign in the
-- bits above its own, which is 0 where the type is unsigned.
use Rattle.std.specs.Prelude.{ℕ, suc, ◌-◌, ◌%◌, ◌^◌, ℤ, pos, negsuc, Bool, ◌==◌, if◌then◌else◌}
use Rattle.std.specs.Int.{w64, cast_signed, cast_unsigned}
use mir.Val.{bits}
use Rattle.bk_arithmetic.specs.declared.integer_type.IntegerType.{IntegerType}
use Rattle.bk_arithmetic.specs.declared.integer_type.IntegerType.TheVariants.{Char, UnsignedChar, Short, UnsignedShort, Int, UnsignedInt, Long, UnsignedLong}
use Rattle.bk_arithmetic.specs.IntegerTypes.{width, is_signed}

-- the low bits of a word, as many as the type has
abbrev pub low_bits : IntegerType → ℕ → ℕ
low_bits t n = n % 2 ^ bits (width t)

-- the same, as a number in two's complement
abbrev pub signed_bits : IntegerType → ℕ → ℤ
signed_bits t n = cast_signed (width t) (low_bits t n)

-- the value that a word has in a type
abbrev pub value : IntegerType → ℕ → ℤ
value t n = if is_signed t then signed_bits t n else pos (low_bits t n)

-- the low bits with their sign in all bits of a word above them
abbrev pub sign_extension : IntegerType → ℕ → ℕ
sign_extension t n = cast_unsigned w64 (signed_bits t n)

-- the word with the same low bits, as the type holds them
abbrev pub extension : IntegerType → ℕ → ℕ
extension Char n = sign_extension Char n
extension UnsignedChar n = low_bits UnsignedChar n
extension Short n = sign_extension Short n
extension UnsignedShort n = low_bits UnsignedShort n
extension Int n = sign_extension Int n
extension UnsignedInt n = sign_extension UnsignedInt n
extension Long n = low_bits Long n
extension UnsignedLong n = low_bits UnsignedLong n

-- the number is a word as the type holds its values
abbrev pub is_word : IntegerType → ℕ → Bool
is_word t n = extension t n == n

-- what is left of a number modulo 2^64
abbrev pub residue : ℤ → ℕ
residue (pos n) = n % 2 ^ 64
residue (negsuc n) = 2 ^ 64 - suc (n % 2 ^ 64)

-- the word that holds a number in a type, modulo 2^width
abbrev pub word : IntegerType → ℤ → ℕ
word t z = extension t (residue z)
