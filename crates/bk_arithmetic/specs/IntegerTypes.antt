-- The integer types of C: their sizes, signs and ranges (C99 6.2.5, 6.2.6.2), and which of them is taken where
-- two meet (6.3.1.1, 6.3.1.8).
use Rattle.std.specs.Prelude.{ℕ, ◌-◌, ◌/◌, ◌^◌, ℤ, pos, negsuc, Bool, true, false, ◌&&◌, nat_lt, ◌==◌, int_le, Option, Some, None, if◌then◌else◌}
use Rattle.std.specs.Int.{Width, w8, w16, w32, w64}
use mir.Val.{bits}
use Rattle.bk_arithmetic.specs.declared.integer_type.IntegerType.{IntegerType}
use Rattle.bk_arithmetic.specs.declared.integer_type.IntegerType.TheVariants.{Char, UnsignedChar, Short, UnsignedShort, Int, UnsignedInt, Long, UnsignedLong}

-- `char` is signed
abbrev pub is_signed : IntegerType → Bool
is_signed Char = true
is_signed UnsignedChar = false
is_signed Short = true
is_signed UnsignedShort = false
is_signed Int = true
is_signed UnsignedInt = false
is_signed Long = true
is_signed UnsignedLong = false

abbrev pub width : IntegerType → Width
width Char = w8
width UnsignedChar = w8
width Short = w16
width UnsignedShort = w16
width Int = w32
width UnsignedInt = w32
width Long = w64
width UnsignedLong = w64

-- the size in bytes
abbrev pub bytes : IntegerType → ℕ
bytes t = bits (width t) / 8

-- the type with so many bytes and this sign
abbrev pub integer_type : (bytes : ℕ) → (signed : Bool) → Option IntegerType
integer_type n true =
    if n == 1 then Some Char
    else if n == 2 then Some Short
    else if n == 4 then Some Int
    else if n == 8 then Some Long
    else None
integer_type n false =
    if n == 1 then Some UnsignedChar
    else if n == 2 then Some UnsignedShort
    else if n == 4 then Some UnsignedInt
    else if n == 8 then Some UnsignedLong
    else None

-- the least and the greatest value; `negsuc n` is -(n + 1)
abbrev pub least : IntegerType → ℤ
least Char = negsuc (2 ^ 7 - 1)
least UnsignedChar = pos 0
least Short = negsuc (2 ^ 15 - 1)
least UnsignedShort = pos 0
least Int = negsuc (2 ^ 31 - 1)
least UnsignedInt = pos 0
least Long = negsuc (2 ^ 63 - 1)
least UnsignedLong = pos 0

abbrev pub greatest : IntegerType → ℤ
greatest Char = pos (2 ^ 7 - 1)
greatest UnsignedChar = pos (2 ^ 8 - 1)
greatest Short = pos (2 ^ 15 - 1)
greatest UnsignedShort = pos (2 ^ 16 - 1)
greatest Int = pos (2 ^ 31 - 1)
greatest UnsignedInt = pos (2 ^ 32 - 1)
greatest Long = pos (2 ^ 63 - 1)
greatest UnsignedLong = pos (2 ^ 64 - 1)

-- the number is a value of the type
abbrev pub fits : IntegerType → ℤ → Bool
fits t z = int_le (least t) z && int_le z (greatest t)

-- the integer promotions (6.3.1.1): `int` has all values of the narrower types
abbrev pub promote : IntegerType → IntegerType
promote Char = Int
promote UnsignedChar = Int
promote Short = Int
promote UnsignedShort = Int
promote Int = Int
promote UnsignedInt = UnsignedInt
promote Long = Long
promote UnsignedLong = UnsignedLong

-- of two promoted types the longer one; of two of one length the unsigned one, if either is unsigned
abbrev pub longer : IntegerType → IntegerType → IntegerType
longer t u =
    if nat_lt (bytes t) (bytes u) then u
    else if nat_lt (bytes u) (bytes t) then t
    else if is_signed t then u
    else t

-- the usual arithmetic conversions (6.3.1.8)
abbrev pub common : IntegerType → IntegerType → IntegerType
common t u = longer (promote t) (promote u)
