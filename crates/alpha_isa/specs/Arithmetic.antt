-- Words and what the operate instructions do with them, after the Alpha Architecture Handbook.
-- A word is a number below 2^64, and a signed number is read off it in two's complement.
use Rattle.std.specs.Prelude.{ℕ, zero, suc, ◌+◌, ◌-◌, ◌*◌, ◌/◌, ◌%◌, ◌^◌, ℤ, pos, negsuc, ◌+ℤ◌, ◌-ℤ◌, ◌*ℤ◌, Bool, nat_lt, nat_le, int_lt, int_le, ◌==◌, if◌then◌else◌, bit_and, bit_or, bit_xor}
use Rattle.std.specs.Int.{Width, w8, w16, w32, w64, cast_unsigned, cast_signed, int_shr}
use mir.Val.{bits, hbits}
use Rattle.alpha_isa.specs.declared.insn.OperateOp.{OperateOp}
use Rattle.alpha_isa.specs.declared.insn.OperateOp.TheVariants.{Addl, Subl, Cmpult, Addq, S4addq, Subq, Cmpeq, S8addq, Cmpule, AddlV, SublV, Cmplt, AddqV, SubqV, Cmple, And, Bic, Bis, Cmoveq, Cmovne, Ornot, Xor, Eqv, Zapnot, Srl, Sll, Sra, Mull, Mulq, Umulh, MullV, MulqV, Sextb, Sextw}

-- ---- words

-- what is left of a number in a word
abbrev pub word_at : ℕ → ℕ
word_at n = n % 2 ^ 64

-- the word of a signed number that fits in 64 bits
abbrev pub word_from : ℤ → ℕ
word_from z = cast_unsigned w64 z

-- the low bits of a word as a signed number
abbrev pub signed_value : Width → ℕ → ℤ
signed_value w n = cast_signed w (n % 2 ^ bits w)

-- the low bits of a word with their sign in all bits above them
abbrev pub sign_extension : Width → ℕ → ℕ
sign_extension w n = word_from (signed_value w n)

-- a signed number lies in the range of its width
abbrev pub fits_signed : Width → ℤ → Bool
fits_signed w (pos n) = nat_lt n (2 ^ hbits w)
fits_signed w (negsuc n) = nat_lt n (2 ^ hbits w)

-- each bit of a word turned
abbrev pub word_complement : ℕ → ℕ
word_complement n = 2 ^ 64 - 1 - n

-- n - m, as a number that is the same modulo 2^64
abbrev pub word_difference : ℕ → ℕ → ℕ
word_difference n m = n + (2 ^ 64 - m)

-- of the low k bytes of n, those whose bit in the mask is 1
abbrev pub kept_bytes : ℕ → ℕ → ℕ → ℕ
kept_bytes zero n mask = 0
kept_bytes (suc k) n mask = (if mask % 2 == 1 then n % 256 else 0) + 256 * kept_bytes k (n / 256) (mask / 2)

-- ---- operations

-- what an operation does with its destination: it gets a word, keeps its own, or the operation traps
pub data OperationEffect : Type 0 where
  Gives : ℕ → OperationEffect
  Keeps : OperationEffect
  Overflows : OperationEffect

-- a result of 64 bits; one of 32 bits, with its sign extended; a truth value
abbrev pub quad_result : ℕ → OperationEffect
quad_result n = Gives (word_at n)

abbrev pub long_result : ℕ → OperationEffect
long_result n = Gives (sign_extension w32 n)

abbrev pub truth_result : Bool → OperationEffect
truth_result b = Gives (if b then 1 else 0)

-- a signed result, which traps where it does not fit
abbrev pub checked_effect : Width → ℤ → OperationEffect
checked_effect w z = if fits_signed w z then Gives (word_from z) else Overflows

-- an operation on the words of its two operands
abbrev pub operation_effect : OperateOp → ℕ → ℕ → OperationEffect
operation_effect Addl a b = long_result (a + b)
operation_effect Subl a b = long_result (word_difference a b)
operation_effect Cmpult a b = truth_result (nat_lt a b)
operation_effect Addq a b = quad_result (a + b)
operation_effect S4addq a b = quad_result (4 * a + b)
operation_effect Subq a b = quad_result (word_difference a b)
operation_effect Cmpeq a b = truth_result (a == b)
operation_effect S8addq a b = quad_result (8 * a + b)
operation_effect Cmpule a b = truth_result (nat_le a b)
operation_effect AddlV a b = checked_effect w32 (signed_value w32 a +ℤ signed_value w32 b)
operation_effect SublV a b = checked_effect w32 (signed_value w32 a -ℤ signed_value w32 b)
operation_effect Cmplt a b = truth_result (int_lt (signed_value w64 a) (signed_value w64 b))
operation_effect AddqV a b = checked_effect w64 (signed_value w64 a +ℤ signed_value w64 b)
operation_effect SubqV a b = checked_effect w64 (signed_value w64 a -ℤ signed_value w64 b)
operation_effect Cmple a b = truth_result (int_le (signed_value w64 a) (signed_value w64 b))
operation_effect And a b = Gives (bit_and a b)
operation_effect Bic a b = Gives (bit_and a (word_complement b))
operation_effect Bis a b = Gives (bit_or a b)
operation_effect Cmoveq a b = if a == 0 then Gives b else Keeps
operation_effect Cmovne a b = if a == 0 then Keeps else Gives b
operation_effect Ornot a b = Gives (bit_or a (word_complement b))
operation_effect Xor a b = Gives (bit_xor a b)
operation_effect Eqv a b = Gives (bit_xor a (word_complement b))
operation_effect Zapnot a b = Gives (kept_bytes 8 a b)
operation_effect Srl a b = Gives (a / 2 ^ (b % 64))
operation_effect Sll a b = quad_result (a * 2 ^ (b % 64))
operation_effect Sra a b = Gives (word_from (int_shr (signed_value w64 a) (b % 64)))
operation_effect Mull a b = long_result (a * b)
operation_effect Mulq a b = quad_result (a * b)
operation_effect Umulh a b = Gives (a * b / 2 ^ 64)
operation_effect MullV a b = checked_effect w32 (signed_value w32 a *ℤ signed_value w32 b)
operation_effect MulqV a b = checked_effect w64 (signed_value w64 a *ℤ signed_value w64 b)
operation_effect Sextb a b = Gives (sign_extension w8 b)
operation_effect Sextw a b = Gives (sign_extension w16 b)
