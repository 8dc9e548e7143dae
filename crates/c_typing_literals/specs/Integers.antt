-- Integer constants (C99 6.4.4.1): their values, and the types in which these are held.
use Rattle.std.specs.Prelude.{ℕ, ◌-◌, ◌^◌, pos, nat_le, Bool, false, not, ◌||◌, ◌&&◌, ◌==◌, if◌then◌else◌, List, [], ◌∷◌, take, drop, Option, Some, None, option_map, option_and_then}
use Rattle.std.specs.List.{prefix_len, list_any}
use Rattle.bk_arithmetic.specs.declared.integer_type.IntegerType.{IntegerType}
use Rattle.bk_arithmetic.specs.declared.integer_type.IntegerType.TheVariants.{Char, UnsignedChar, Short, UnsignedShort, Int, UnsignedInt, Long, UnsignedLong}
use Rattle.bk_arithmetic.specs.IntegerTypes.{fits}
use Rattle.bk_arithmetic.specs.Words.{extension}
use Rattle.c_lexer.specs.Bytes.{is_digit, is_octal, is_hex}
use Rattle.c_lexer.specs.Numbers.{is_u, is_l}
use Rattle.c_lexer.specs.Literals.{value_in}
use Rattle.c_typing_literals.specs.declared.integers.IntegerLiteral.{IntegerLiteral}

-- ---- types

-- The types that a constant may have: a suffix with `u` leaves the unsigned ones, and one with `l` those of 8 bytes. A
-- decimal constant without a `u` has no unsigned type
abbrev pub is_allowed : (decimal unsigned long : Bool) → IntegerType → Bool
is_allowed decimal unsigned long Char = false
is_allowed decimal unsigned long UnsignedChar = false
is_allowed decimal unsigned long Short = false
is_allowed decimal unsigned long UnsignedShort = false
is_allowed decimal unsigned long Int = not unsigned && not long
is_allowed decimal unsigned long UnsignedInt = (unsigned || not decimal) && not long
is_allowed decimal unsigned long Long = not unsigned
is_allowed decimal unsigned long UnsignedLong = unsigned || not decimal

-- a type that a constant may have, and that holds its value
abbrev pub takes : (decimal unsigned long : Bool) → ℕ → IntegerType → Bool
takes decimal unsigned long n t = is_allowed decimal unsigned long t && fits t (pos n)

-- the type is the first that takes the value, of `int`, `unsigned int`, `long`, `unsigned long`
abbrev pub constant_type : (decimal unsigned long : Bool) → ℕ → Option IntegerType
constant_type decimal unsigned long n =
    if takes decimal unsigned long n Int then Some Int
    else if takes decimal unsigned long n UnsignedInt then Some UnsignedInt
    else if takes decimal unsigned long n Long then Some Long
    else if takes decimal unsigned long n UnsignedLong then Some UnsignedLong
    else None

-- ---- spellings

abbrev pub has_u : List ℕ → Bool
has_u suffix = list_any is_u suffix

abbrev pub has_l : List ℕ → Bool
has_l suffix = list_any is_l suffix

-- a number that a word of 64 bits holds; no type has a greater one
unfoldable pub word_of_number : ℕ → Option ℕ
word_of_number n = if nat_le n (2 ^ 64 - 1) then Some n else None

-- a value in its type, as the word that the type holds it by
abbrev pub literal_of_type : ℕ → IntegerType → IntegerLiteral
literal_of_type n t = record { ty = t; word = extension t n }

abbrev pub literal : (decimal : Bool) → (suffix : List ℕ) → ℕ → Option IntegerLiteral
literal decimal suffix n = option_map (literal_of_type n) (constant_type decimal (has_u suffix) (has_l suffix) n)

-- digits in a base, and the suffix behind them
abbrev pub literal_in : (base : ℕ) → (is_digit : ℕ → Bool) → List ℕ → Option IntegerLiteral
literal_in base p s =
    option_and_then (literal (base == 10) (drop (prefix_len p s) s))
    (word_of_number (value_in base (take (prefix_len p s) s)))

-- a hexadecimal constant begins with `0x`, an octal one with 0
abbrev pub is_x : ℕ → Bool
is_x b = b == 120 || b == 88

abbrev pub is_hex_constant : List ℕ → Bool
is_hex_constant [] = false
is_hex_constant (z ∷ []) = false
is_hex_constant (z ∷ x ∷ s) = z == 48 && is_x x

abbrev pub is_octal_constant : List ℕ → Bool
is_octal_constant [] = false
is_octal_constant (z ∷ s) = z == 48

-- what an integer constant stands for; None where no type of its list holds the value
abbrev pub integer_literal : List ℕ → Option IntegerLiteral
integer_literal s =
    if is_hex_constant s then literal_in 16 is_hex (drop 2 s)
    else if is_octal_constant s then literal_in 8 is_octal s
    else literal_in 10 is_digit s
