-- The numbers that bytes spell, as functions of them.
use Rattle.std.specs.Prelude.{ℕ, ◌^◌, ◌-◌, nat_le, ℤ, pos, negsuc, ◌&&◌, ◌==◌, if◌then◌else◌, List, [], ◌∷◌, Option, Some, None, option_map, decimal, bytes_eq}
use Rattle.std.specs.Str.Parse.{digits_value}

-- the value of the digits, where it is spelled so
unfoldable pub number_of : ℕ → List ℕ → Option ℕ
number_of most s =
    if nat_le (digits_value 10 s) most && bytes_eq (decimal (digits_value 10 s)) s then Some (digits_value 10 s)
    else None

-- the number with this one's digits behind a minus, which `0` has not
abbrev pub negative : ℕ → Option ℤ
negative n = if n == 0 then None else Some (negsuc (n - 1))

abbrev pub negate : Option ℕ → Option ℤ
negate None = None
negate (Some n) = negative n

-- the number of 16 bits in two's complement that is spelled so
unfoldable pub displacement_of : List ℕ → Option ℤ
displacement_of [] = None
displacement_of (b ∷ s) =
    if b == 45 then negate (number_of (2 ^ 15) s) else option_map pos (number_of (2 ^ 15 - 1) (b ∷ s))
