-- What the operators do with integers that were converted to a type (C99 6.5). The operands are words, and what they
-- hold is read off their low bits.
use Rattle.std.specs.Prelude.{ℕ, ◌-◌, ◌*◌, ◌^◌, ℤ, pos, ◌+ℤ◌, ◌-ℤ◌, ◌*ℤ◌, neg_ℤ, int_div, int_rem, int_lt, int_le, Bool, ◌&&◌, ◌==◌, bit_and, bit_or, bit_xor, unsigned_abs, Option, Some, None, if◌then◌else◌}
use Rattle.std.specs.Int.{int_shr}
use mir.Val.{bits}
use Rattle.bk_arithmetic.specs.declared.integer_type.IntegerType.{IntegerType}
use Rattle.bk_arithmetic.specs.declared.outcome.ArithmeticOutcome.{ArithmeticOutcome}
use Rattle.bk_arithmetic.specs.declared.outcome.ArithmeticOutcome.TheVariants.{Word, Trap, Undefined}
use Rattle.bk_arithmetic.specs.IntegerTypes.{width, is_signed, fits}
use Rattle.bk_arithmetic.specs.Words.{low_bits, value, word, extension}

-- the traps, by their codes
abbrev pub division_by_zero : ArithmeticOutcome
division_by_zero = Trap 1

abbrev pub overflow : ArithmeticOutcome
overflow = Trap 3

-- ---- conversion

-- the word in the type t of what a word has in the type s (6.3.1.3)
abbrev pub conversion : (s t : IntegerType) → ℕ → ℕ
conversion s t n = word t (value s n)

-- ---- arithmetic

-- a result that has to be a value of the type
abbrev pub word_or_overflow : IntegerType → ℤ → ArithmeticOutcome
word_or_overflow t z = if fits t z then Word (word t z) else overflow

-- a result in a type: a signed one has to be a value of the type, an unsigned one is taken modulo 2^width
abbrev pub result_in : IntegerType → ℤ → ArithmeticOutcome
result_in t z = if is_signed t then word_or_overflow t z else Word (word t z)

abbrev pub sum : IntegerType → ℕ → ℕ → ArithmeticOutcome
sum t a b = result_in t (value t a +ℤ value t b)

abbrev pub difference : IntegerType → ℕ → ℕ → ArithmeticOutcome
difference t a b = result_in t (value t a -ℤ value t b)

abbrev pub product : IntegerType → ℕ → ℕ → ArithmeticOutcome
product t a b = result_in t (value t a *ℤ value t b)

abbrev pub negation : IntegerType → ℕ → ArithmeticOutcome
negation t a = result_in t (neg_ℤ (value t a))

-- the quotient is rounded toward zero, and the remainder has the sign of the left operand; where the quotient is no
-- value of the type, both trap (6.5.5)
abbrev pub quotient : IntegerType → ℕ → ℕ → ArithmeticOutcome
quotient t a b = if low_bits t b == 0 then division_by_zero else word_or_overflow t (int_div (value t a) (value t b))

abbrev pub checked_remainder : IntegerType → (x y : ℤ) → ArithmeticOutcome
checked_remainder t x y = if fits t (int_div x y) then Word (word t (int_rem x y)) else overflow

abbrev pub remainder : IntegerType → ℕ → ℕ → ArithmeticOutcome
remainder t a b = if low_bits t b == 0 then division_by_zero else checked_remainder t (value t a) (value t b)

-- ---- bits

abbrev pub conjunction : IntegerType → ℕ → ℕ → ℕ
conjunction t a b = extension t (bit_and a b)

abbrev pub disjunction : IntegerType → ℕ → ℕ → ℕ
disjunction t a b = extension t (bit_or a b)

abbrev pub exclusive_disjunction : IntegerType → ℕ → ℕ → ℕ
exclusive_disjunction t a b = extension t (bit_xor a b)

-- each bit turned
abbrev pub complement : IntegerType → ℕ → ℕ
complement t a = extension t (2 ^ 64 - 1 - a)

-- the number in a word of the type u, where a value of the type t may be moved by so many bits: 0 to width - 1 (6.5.7)
abbrev pub shift_count : (t u : IntegerType) → ℕ → Option ℕ
shift_count t u c =
    if int_le (pos 0) (value u c) && int_lt (value u c) (pos (bits (width t)))
    then Some (unsigned_abs (value u c))
    else None

-- the bits that are moved out to the left are lost
abbrev pub left_shift_by : IntegerType → ℕ → Option ℕ → ArithmeticOutcome
left_shift_by t a (Some k) = Word (extension t (a * 2 ^ k))
left_shift_by t a None = Undefined

abbrev pub left_shift : (t u : IntegerType) → ℕ → ℕ → ArithmeticOutcome
left_shift t u a c = left_shift_by t a (shift_count t u c)

-- a quotient by a power of two that is rounded down: the sign stays
abbrev pub right_shift_by : IntegerType → ℕ → Option ℕ → ArithmeticOutcome
right_shift_by t a (Some k) = Word (word t (int_shr (value t a) k))
right_shift_by t a None = Undefined

abbrev pub right_shift : (t u : IntegerType) → ℕ → ℕ → ArithmeticOutcome
right_shift t u a c = right_shift_by t a (shift_count t u c)

-- ---- comparisons

abbrev pub is_less : IntegerType → ℕ → ℕ → Bool
is_less t a b = int_lt (value t a) (value t b)

abbrev pub is_less_or_equal : IntegerType → ℕ → ℕ → Bool
is_less_or_equal t a b = int_le (value t a) (value t b)

-- two words have one value in a type where their low bits are the same
abbrev pub is_equal : IntegerType → ℕ → ℕ → Bool
is_equal t a b = low_bits t a == low_bits t b

-- the value of a comparison, as an `int`
abbrev pub truth : Bool → ℕ
truth b = if b then 1 else 0
