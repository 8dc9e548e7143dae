-- What the division routines answer. The machine has no division, so it is done by routines: of two
-- signed words, of two unsigned ones, and of two words that stand for numbers of 32 bits, signed or unsigned.
use Rattle.std.specs.Prelude.{ℕ, ◌-◌, ◌/◌, ◌%◌, ◌^◌, ◌≡◌, ℤ, Bool, ◌&&◌, ◌==◌, if◌then◌else◌}
use Rattle.std.specs.Int.{Width, w32, w64}
use Rattle.std.specs.Int.RustNames.{int_div, int_rem}
use mir.Val.{hbits}
use Rattle.alpha_isa.specs.Arithmetic.{word_from, signed_value, sign_extension}

-- the eight routines: quotient and remainder of signed and unsigned (`u`) numbers of 64 bits (`q`) and 32 bits (`l`)
pub data Routine : Type 0 where
  Divq : Routine
  Remq : Routine
  Divqu : Routine
  Remqu : Routine
  Divl : Routine
  Reml : Routine
  Divlu : Routine
  Remlu : Routine

-- a routine answers a word, or it traps with a code
pub data RoutineEnding : Type 0 where
  Answers : (word : ℕ) → RoutineEnding
  Traps : (code : ℕ) → RoutineEnding

-- division by zero is the trap 1
abbrev pub trap_at_zero : ℕ → RoutineEnding → RoutineEnding
trap_at_zero divisor outcome = if divisor == 0 then Traps 1 else outcome

-- the least signed number of a width and -1, whose quotient is no number of the width
abbrev pub is_least_by_minus_one : Width → ℕ → ℕ → Bool
is_least_by_minus_one w a b = (a == 2 ^ 64 - 2 ^ hbits w) && (b == 2 ^ 64 - 1)

-- on signed numbers division rounds toward zero, so the remainder has the dividend's sign
abbrev pub signed_outcome : Width → (ℤ → ℤ → ℤ) → ℕ → ℕ → RoutineEnding
signed_outcome w operation a b =
    trap_at_zero b (if is_least_by_minus_one w a b then Traps 3
    else Answers (word_from (operation (signed_value w a) (signed_value w b))))

abbrev pub unsigned_outcome : (ℕ → ℕ → ℕ) → ℕ → ℕ → RoutineEnding
unsigned_outcome operation a b = trap_at_zero b (Answers (operation a b))

-- an unsigned number of 32 bits is answered with its sign bit in all bits above
abbrev pub long_outcome : (ℕ → ℕ → ℕ) → ℕ → ℕ → RoutineEnding
long_outcome operation a b = trap_at_zero b (Answers (sign_extension w32 (operation (a % 2 ^ 32) (b % 2 ^ 32))))

-- what a routine makes of the dividend's word and the divisor's
abbrev pub routine_outcome : Routine → ℕ → ℕ → RoutineEnding
routine_outcome Divq a b = signed_outcome w64 int_div a b
routine_outcome Remq a b = signed_outcome w64 int_rem a b
routine_outcome Divqu a b = unsigned_outcome ◌/◌ a b
routine_outcome Remqu a b = unsigned_outcome ◌%◌ a b
routine_outcome Divl a b = signed_outcome w32 int_div a b
routine_outcome Reml a b = signed_outcome w32 int_rem a b
routine_outcome Divlu a b = long_outcome ◌/◌ a b
routine_outcome Remlu a b = long_outcome ◌%◌ a b

-- the words that a routine takes: those of 32 bits have their sign bit in all bits above
abbrev pub IsRoutineOperand : Routine → ℕ → Type 0
IsRoutineOperand Divl a = sign_extension w32 a ≡ a
IsRoutineOperand Reml a = sign_extension w32 a ≡ a
IsRoutineOperand Divlu a = sign_extension w32 a ≡ a
IsRoutineOperand Remlu a = sign_extension w32 a ≡ a
IsRoutineOperand _ a = a ≡ a
