-- Integer constants (C99 6.4.4.1), where at most one `l` may stand.
use Rattle.std.specs.Prelude.{ℕ, Bool, true, false, ◌||◌, ◌&&◌, ◌==◌, if◌then◌else◌, List, [], ◌∷◌, drop}
use Rattle.std.specs.List.{prefix_len}
use Rattle.c_lexer.specs.Bytes.{is_digit, is_octal, is_hex}

abbrev pub is_u : ℕ → Bool
is_u b = b == 117 || b == 85

abbrev pub is_l : ℕ → Bool
is_l b = b == 108 || b == 76

-- an integer suffix, or nothing
unfoldable pub is_suffix : List ℕ → Bool
is_suffix [] = true
is_suffix (a ∷ []) = is_u a || is_l a
is_suffix (a ∷ b ∷ []) = (is_u a && is_l b) || (is_l a && is_u b)
is_suffix (a ∷ b ∷ c ∷ s) = false

-- digits that pass the test, and then a suffix or nothing
unfoldable pub are_digits : (ℕ → Bool) → List ℕ → Bool
are_digits p s = is_suffix (drop (prefix_len p s) s)

-- behind a `0`: `x` and one or more hexadecimal digits
unfoldable pub is_hexadecimal : List ℕ → Bool
is_hexadecimal [] = false
is_hexadecimal (x ∷ []) = false
is_hexadecimal (x ∷ d ∷ s) = (x == 120 || x == 88) && is_hex d && are_digits is_hex s

-- a decimal constant begins with a digit other than 0, an octal or hexadecimal one with 0
unfoldable pub is_number : List ℕ → Bool
is_number [] = false
is_number (b ∷ s) = if b == 48 then is_hexadecimal s || are_digits is_octal s else is_digit b && are_digits is_digit s
