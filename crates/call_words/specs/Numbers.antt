-- The numbers that words give.
use Rattle.std.specs.Prelude.{ℕ, Bool, ◌==◌, ◌&&◌, ◌%◌, nat_le, List, length, Option, Some, None, if◌then◌else◌, option_and_then}
use Rattle.std.specs.Char.{is_ascii_digit}
use Rattle.std.specs.List.{list_all}
use Rattle.std.specs.Str.Parse.{digits_value}
use Rattle.call_words.specs.Limits.{least_stack, most_stack, least_budget, most_budget, most_digits, most_seed, least_size, most_size}

-- one to twenty decimal digits
abbrev pub is_decimal : List ℕ → Bool
is_decimal text = nat_le 1 (length text) && (nat_le (length text) most_digits && list_all is_ascii_digit text)

-- what lies between two numbers
abbrev pub when_within : (low high : ℕ) → ℕ → Option ℕ
when_within low high n = if nat_le low n && nat_le n high then Some n else None

-- the number of a text, where it is from the one to the other
abbrev pub number_within : (low high : ℕ) → List ℕ → Option ℕ
number_within low high text = if is_decimal text then when_within low high (digits_value 10 text) else None

-- a stack is a multiple of 16
abbrev pub when_whole : ℕ → Option ℕ
when_whole n = if n % 16 == 0 then Some n else None

abbrev pub stack_at : List ℕ → Option ℕ
stack_at text = option_and_then when_whole (number_within least_stack most_stack text)

abbrev pub budget_at : List ℕ → Option ℕ
budget_at text = number_within least_budget most_budget text

abbrev pub text_seed_at : List ℕ → Option ℕ
text_seed_at text = number_within 0 most_seed text

abbrev pub text_size_at : List ℕ → Option ℕ
text_size_at text = number_within least_size most_size text
