-- What the lines of the data say, as functions of their bytes.
use Rattle.std.specs.Prelude.{ℕ, ◌+◌, ◌-◌, ◌*◌, ◌^◌, nat_le, ◌&&◌, if◌then◌else◌, List, [], ◌∷◌, Option, Some, None, codes, bytes_eq}
use Rattle.alpha_items.specs.declared.item.Fix.{Fix}
use Rattle.alpha_lines.specs.model.Parts.{cut}
use Rattle.alpha_lines.specs.model.Numbers.{number_of}
use Rattle.alpha_lines.specs.model.Readers.{number32_of}

-- what stands behind the word that a line begins with
abbrev pub behind_in : List ℕ → Option (List ℕ × List ℕ) → Option (List ℕ)
behind_in word None = None
behind_in word (Some p) = if bytes_eq p.0 word then Some p.1 else None

unfoldable pub behind_of : List ℕ → List ℕ → Option (List ℕ)
behind_of word line = behind_in word (cut 32 line)

abbrev pub most_u64 : ℕ
most_u64 = 2 ^ 64 - 1

abbrev pub number_in : Option (List ℕ) → Option ℕ
number_in None = None
number_in (Some s) = number_of most_u64 s

-- how many bytes a line says that the data has
unfoldable pub data_of : List ℕ → Option ℕ
data_of line = number_in (behind_of (codes ".data") line)

abbrev pub fix_with : Option ℕ → Option ℕ → Option Fix
fix_with (Some a) (Some o) = Some (record { at = a; offset = o })
fix_with (Some a) None = None
fix_with None o = None

abbrev pub fix_parts : Option (List ℕ × List ℕ) → Option Fix
fix_parts None = None
fix_parts (Some p) = fix_with (number32_of p.0) (number32_of p.1)

abbrev pub fix_in : Option (List ℕ) → Option Fix
fix_in None = None
fix_in (Some s) = fix_parts (cut 32 s)

unfoldable pub fix_of : List ℕ → Option Fix
fix_of line = fix_in (behind_of (codes ".fix") line)

-- the value of a hexadecimal digit in lower case
abbrev pub hex_value : ℕ → Option ℕ
hex_value b =
    if nat_le 48 b && nat_le b 57 then Some (b - 48) else if nat_le 97 b && nat_le b 102 then Some (b - 87) else None

abbrev pub hex_pair : Option ℕ → Option ℕ → Option ℕ
hex_pair (Some high) (Some low) = Some (high * 16 + low)
hex_pair (Some high) None = None
hex_pair None low = None

abbrev pub with_first : Option ℕ → Option (List ℕ) → Option (List ℕ)
with_first (Some b) (Some s) = Some (b ∷ s)
with_first (Some b) None = None
with_first None s = None

-- the bytes of pairs of digits
abbrev pub hex_of : List ℕ → Option (List ℕ)
hex_of [] = Some []
hex_of (a ∷ []) = None
hex_of (a ∷ b ∷ s) = with_first (hex_pair (hex_value a) (hex_value b)) (hex_of s)

-- the byte of the first pair, and what stands behind it
abbrev pub behind_byte : List ℕ → Option ℕ → Option (ℕ × List ℕ)
behind_byte s None = None
behind_byte s (Some x) = Some (x, s)

abbrev pub hex_first : List ℕ → Option (ℕ × List ℕ)
hex_first [] = None
hex_first (a ∷ []) = None
hex_first (a ∷ b ∷ s) = behind_byte s (hex_pair (hex_value a) (hex_value b))

abbrev pub hex_in : Option (List ℕ) → Option (List ℕ)
hex_in None = None
hex_in (Some s) = hex_of s

unfoldable pub hex_line_of : List ℕ → Option (List ℕ)
hex_line_of line = hex_in (behind_of (codes ".hex") line)
