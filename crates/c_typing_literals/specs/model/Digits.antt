-- A number as its digits are read.
use Rattle.std.specs.Prelude.{ℕ, Option, Some, None}
use Rattle.c_lexer.specs.Literals.{digit_step}
use Rattle.c_typing_literals.specs.Integers.{word_of_number}

-- a number with one digit more, where a word holds both
abbrev pub next_value : ℕ → Option ℕ → ℕ → Option ℕ
next_value base None b = None
next_value base (Some value) b = word_of_number (digit_step base value b)
