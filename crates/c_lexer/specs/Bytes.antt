-- The classes of bytes (C99 5.2.1, 6.4).
use Rattle.std.specs.Prelude.{ℕ, Bool, not, ◌||◌, ◌&&◌, ◌==◌, nat_le}

-- white space: space, tab, line feed, vertical tab, form feed, carriage return (C99 6.4p3)
abbrev pub is_blank : ℕ → Bool
is_blank b = b == 32 || (nat_le 9 b && nat_le b 13)

-- white space within a line: space and tab
abbrev pub is_gap : ℕ → Bool
is_gap b = b == 32 || b == 9

-- every byte but the line feed stands within a line
abbrev pub is_inner : ℕ → Bool
is_inner b = not (b == 10)

abbrev pub is_digit : ℕ → Bool
is_digit b = nat_le 48 b && nat_le b 57

abbrev pub is_octal : ℕ → Bool
is_octal b = nat_le 48 b && nat_le b 55

abbrev pub is_hex : ℕ → Bool
is_hex b = is_digit b || (nat_le 65 b && nat_le b 70) || (nat_le 97 b && nat_le b 102)

-- `_` and the letters: what a name begins with (C99 6.4.2.1, nondigit)
abbrev pub is_letter : ℕ → Bool
is_letter b = (nat_le 65 b && nat_le b 90) || (nat_le 97 b && nat_le b 122) || b == 95

-- what a name goes on with
abbrev pub is_word_byte : ℕ → Bool
is_word_byte b = is_letter b || is_digit b

-- what a run of digits, letters and points is made of
abbrev pub is_run : ℕ → Bool
is_run b = is_word_byte b || b == 46
