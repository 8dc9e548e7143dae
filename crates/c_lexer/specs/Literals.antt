-- Character constants and string literals (C99 6.4.4.4, 6.4.5).
use Rattle.std.specs.Prelude.{ℕ, ◌+◌, ◌*◌, ◌-◌, ◌||◌, ◌==◌, nat_le, if◌then◌else◌, List, [], ◌∷◌, take, drop, fold, Option, Some, None, option_map}
use Rattle.std.specs.List.{prefix_len}
use Rattle.c_lexer.specs.Bytes.{is_digit, is_octal, is_hex}
use Rattle.c_lexer.specs.Quotes.{quote_end}
use Rattle.c_lexer.specs.declared.literals.Item.{Item}

-- the value of a digit, also of a hexadecimal one
unfoldable pub digit_value : ℕ → ℕ
digit_value b = if is_digit b then b - 48 else if nat_le 97 b then b - 87 else b - 55

abbrev pub digit_step : ℕ → ℕ → ℕ → ℕ
digit_step base value b = value * base + digit_value b

-- the value of digits in a base
unfoldable pub value_in : ℕ → List ℕ → ℕ
value_in base digits = fold (digit_step base) 0 digits

-- a value that a byte has room for
unfoldable pub byte : ℕ → Option ℕ
byte value = if nat_le value 255 then Some value else None

abbrev pub item : Option ℕ → ℕ → Option Item
item None len = None
item (Some value) len = Some (record { value = value; len = len })

-- the value of a simple escape sequence, by the byte behind its backslash (C99 6.4.4.4p3)
unfoldable pub simple_value : ℕ → Option ℕ
simple_value c = if c == 110 then Some 10
    else if c == 116 then Some 9
    else if c == 114 then Some 13
    else if c == 97 then Some 7
    else if c == 98 then Some 8
    else if c == 102 then Some 12
    else if c == 118 then Some 11
    else if c == 92 then Some 92
    else if c == 39 then Some 39
    else if c == 34 then Some 34
    else if c == 63 then Some 63
    else None

-- an octal escape sequence, by its digits: as many as there are, up to three
unfoldable pub octal_item : List ℕ → Option Item
octal_item s = let n = prefix_len is_octal (take 3 s) in item (byte (value_in 8 (take n s))) (n + 1)

-- a hexadecimal one, by what stands behind `\x`: as many digits as there are, and one at least
unfoldable pub hex_item : List ℕ → Option Item
hex_item s = let n = prefix_len is_hex s in if n == 0 then None else item (byte (value_in 16 (take n s))) (n + 2)

-- the escape sequence in front, by what stands behind its backslash
unfoldable pub escape_at : List ℕ → Option Item
escape_at [] = None
escape_at (c ∷ s) = if is_octal c then octal_item (c ∷ s) else if c == 120 then hex_item s else item (simple_value c) 2

-- the item in front, within a literal with this quote: an escape sequence, or a byte other than the quote, backslash
-- and line feed
unfoldable pub item_at : ℕ → List ℕ → Option Item
item_at quote [] = None
item_at quote (b ∷ s) =
    if b == 92 then escape_at s else if b == quote || b == 10 then None else Some (record { value = b; len = 1 })

abbrev pub quote_behind : List ℕ → ℕ → Option ℕ
quote_behind [] n = None
quote_behind (b ∷ s) n = if b == 39 then Some (n + 1) else None

abbrev pub end_behind_item : List ℕ → Option Item → Option ℕ
end_behind_item s None = None
end_behind_item s (Some i) = quote_behind (drop i.len s) i.len

-- behind the opening quote of a character constant: how many bytes its one item and its closing quote take, where both
-- are there
unfoldable pub char_end : List ℕ → Option ℕ
char_end s = end_behind_item s (item_at 39 s)

-- how many bytes the item in front takes, within a string literal
unfoldable pub text_item : List ℕ → Option ℕ
text_item s = option_map (λ i. i.len) (item_at 34 s)

-- behind the opening quote of a string literal: how many bytes its items and its closing quote take, where it is closed
abbrev pub text_end : List ℕ → Option ℕ
text_end s = quote_end text_item 0 s
