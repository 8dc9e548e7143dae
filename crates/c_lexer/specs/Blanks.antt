-- Comments (C99 6.4.9), and linemarkers, the lines by which a preprocessor tells where a text came from.
use Rattle.std.specs.Prelude.{ℕ, suc, ◌-◌, Bool, true, false, not, ◌||◌, ◌&&◌, ◌==◌, if◌then◌else◌, List, [], ◌∷◌, length, drop, reverse, slice_index, take_while, Option, Some, None, option_map}
use Rattle.std.specs.List.{list_all, prefix_len}
use Rattle.c_lexer.specs.Quotes.{quote_end}
use Rattle.c_lexer.specs.Bytes.{is_gap, is_digit, is_inner}

-- the end of a comment
abbrev pub ends : ℕ → ℕ → Bool
ends a b = a == 42 && b == 47

-- how many bytes there are up to and with the first `*/`
unfoldable pub close_at : List ℕ → Option ℕ
close_at [] = None
close_at (a ∷ []) = None
close_at (a ∷ b ∷ s) = if ends a b then Some 2 else option_map suc (close_at (b ∷ s))

-- in a name a backslash takes the next byte with it
abbrev pub name_item_len : ℕ → ℕ
name_item_len b = if b == 92 then 2 else 1

unfoldable pub name_item : List ℕ → Option ℕ
name_item [] = None
name_item (b ∷ s) = Some (name_item_len b)

-- behind the opening quote of a name: how many bytes there are up to and with its closing quote
abbrev pub name_end : List ℕ → Option ℕ
name_end s = quote_end name_item 0 s

abbrev pub is_gap_or_digit : ℕ → Bool
is_gap_or_digit b = is_gap b || is_digit b

-- any number of decimal numbers, each behind spaces or tabs: spaces, tabs and digits, the first no digit and the last
-- one
unfoldable pub are_numbers : List ℕ → Bool
are_numbers [] = true
are_numbers (b ∷ s) =
    is_gap b && is_digit (slice_index (b ∷ s) (length (b ∷ s) - 1)) && list_all is_gap_or_digit (b ∷ s)

abbrev pub numbers_behind : List ℕ → Option ℕ → Bool
numbers_behind s None = false
numbers_behind s (Some n) = are_numbers (drop n s)

-- a name in double quotes, and then numbers
unfoldable pub is_named : List ℕ → Bool
is_named [] = false
is_named (b ∷ s) = b == 34 && numbers_behind s (name_end s)

-- one or more spaces or tabs, or one or more digits, and then what passes the test
abbrev pub has_run_then : (ℕ → Bool) → (List ℕ → Bool) → List ℕ → Bool
has_run_then f test s = let n = prefix_len f s in not (n == 0) && test (drop n s)

unfoldable pub is_marker_end : List ℕ → Bool
is_marker_end [] = true
is_marker_end (b ∷ s) = has_run_then is_gap is_named (b ∷ s)

-- behind the `#` of a linemarker: a number, and optionally a name with numbers, to the end of the line
unfoldable pub is_linemarker : List ℕ → Bool
is_linemarker s = has_run_then is_gap (has_run_then is_digit is_marker_end) s

-- only spaces and tabs stand before the place on its line, where these bytes stand before it in the text
unfoldable pub is_line_start : List ℕ → Bool
is_line_start before = list_all is_gap (take_while is_inner (reverse before))
