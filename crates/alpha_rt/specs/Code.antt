-- The instructions of the routines. A branch counts instructions from the next one on, so the code does the
-- same wherever it stands.
use Rattle.std.specs.Prelude.{ℕ, ◌+◌, ◌-◌, pos, negsuc, List, [], ◌∷◌, ◌++◌, length}
use Rattle.alpha_isa.specs.declared.insn.Fields.{Fields}
use Rattle.alpha_isa.specs.declared.insn.Fields.TheVariants.{Memory, Branch, Jump, Operate, Pal}
use Rattle.alpha_isa.specs.declared.insn.Operand.TheVariants.{Reg, Literal}
use Rattle.alpha_isa.specs.declared.insn.MemoryOp.TheVariants.{Lda, Ldq, Stq}
use Rattle.alpha_isa.specs.declared.insn.BranchOp.TheVariants.{Br, Bsr, Beq, Bne}
use Rattle.alpha_isa.specs.declared.insn.JumpOp.TheVariants.{Ret}
use Rattle.alpha_isa.specs.declared.insn.OperateOp.{OperateOp}
use Rattle.alpha_isa.specs.declared.insn.OperateOp.TheVariants.{Addl, Addq, Subq, Cmpule, Cmplt, SublV, SubqV, Bis, Xor, Cmoveq, Cmovne, Zapnot, Srl}
use Rattle.alpha_rt.specs.Routine.{Routine, Divq, Remq, Divqu, Remqu, Divl, Reml, Divlu, Remlu}

-- Register 24 holds the dividend and 25 the divisor, and the answer goes to 27. The common part divides the
-- unsigned number in 27 by that in 2: it leaves the quotient in 27 and the remainder in 1, and counts in 3.
-- Register 4 holds where it returns to. What 1 to 4 held stands below the stack's top meanwhile.

-- ---- the common part

-- One place of the quotient. The pair of 1 and 27 is doubled; where the divisor goes into the upper half, it is
-- taken from there, and the place is 1. The upper half was below 2 to the number of places, so nothing is lost.
abbrev pub place_front : List Fields
place_front =
    Operate Srl 27 (Literal 63) 28
    ∷ Operate Addq 27 (Reg 27) 27
    ∷ Operate Addq 1 (Reg 1) 1
    ∷ Operate Addq 1 (Reg 28) 1
    ∷ Operate Cmpule 2 (Reg 1) 28
    ∷ []

abbrev pub place_back : List Fields
place_back = Operate Subq 1 (Reg 2) 1 ∷ Operate Addq 27 (Literal 1) 27 ∷ []

abbrev pub place_insns : List Fields
place_insns = place_front ++ Branch Beq 28 (pos 2) ∷ place_back

-- a division by zero traps with the code 1
abbrev pub zero_refusal : List Fields
zero_refusal = Branch Bne 2 (pos 2) ∷ Memory Lda 16 31 (pos 1) ∷ Pal 0xAA ∷ []

-- 16 rounds of four places
abbrev pub preparation : List Fields
preparation = Operate Bis 31 (Reg 31) 1 ∷ Memory Lda 3 31 (pos 16) ∷ []

abbrev pub turn_code : List Fields
turn_code = Operate Subq 3 (Literal 1) 3 ∷ Branch Bne 3 (negsuc 33) ∷ []

abbrev pub common_part : List Fields
common_part =
    zero_refusal ++ (preparation ++ (place_insns ++
    (place_insns ++ (place_insns ++ (place_insns ++ (turn_code ++ Jump Ret 31 4 ∷ []))))))

-- ---- the way in and the way out

abbrev pub prologue : List Fields
prologue =
    Memory Stq 1 30 (negsuc 7)
    ∷ Memory Stq 2 30 (negsuc 15)
    ∷ Memory Stq 3 30 (negsuc 23)
    ∷ Memory Stq 4 30 (negsuc 31)
    ∷ []

abbrev pub epilogue : List Fields
epilogue =
    Memory Ldq 1 30 (negsuc 7)
    ∷ Memory Ldq 2 30 (negsuc 15)
    ∷ Memory Ldq 3 30 (negsuc 23)
    ∷ Memory Ldq 4 30 (negsuc 31)
    ∷ Jump Ret 31 23
    ∷ []

-- ---- what the routines do before and behind the common part

-- where the divisor is -1 the dividend is negated, which traps with the code 3 for the least number
abbrev pub least_test : OperateOp → List Fields
least_test negation =
    Operate Addq 25 (Literal 1) 28
    ∷ Branch Bne 28 (pos 1)
    ∷ Operate negation 31 (Reg 24) 28
    ∷ []

-- the absolute values; the numbers themselves; and the numbers in their low 32 bits
abbrev pub magnitude_code : ℕ → ℕ → List Fields
magnitude_code from to =
    Operate Cmplt from (Reg 31) 28
    ∷ Operate Subq 31 (Reg from) to
    ∷ Operate Cmoveq 28 (Reg from) to
    ∷ []

abbrev pub magnitudes : List Fields
magnitudes = magnitude_code 24 27 ++ magnitude_code 25 2

abbrev pub numbers : List Fields
numbers = Operate Bis 31 (Reg 24) 27 ∷ Operate Bis 31 (Reg 25) 2 ∷ []

abbrev pub low_numbers : List Fields
low_numbers = Operate Zapnot 24 (Literal 0x0F) 27 ∷ Operate Zapnot 25 (Literal 0x0F) 2 ∷ []

-- the quotient is negative where one of the signs is, the remainder where the dividend's is
abbrev pub signed_quotient : List Fields
signed_quotient =
    Operate Cmplt 24 (Reg 31) 28
    ∷ Operate Cmplt 25 (Reg 31) 1
    ∷ Operate Xor 28 (Reg 1) 28
    ∷ Operate Subq 31 (Reg 27) 1
    ∷ Operate Cmovne 28 (Reg 1) 27
    ∷ []

abbrev pub signed_remainder : List Fields
signed_remainder =
    Operate Cmplt 24 (Reg 31) 28
    ∷ Operate Subq 31 (Reg 1) 27
    ∷ Operate Cmoveq 28 (Reg 1) 27
    ∷ []

abbrev pub plain_remainder : List Fields
plain_remainder = Operate Bis 31 (Reg 1) 27 ∷ []

abbrev pub long_quotient : List Fields
long_quotient = Operate Addl 27 (Literal 0) 27 ∷ []

abbrev pub long_remainder : List Fields
long_remainder = Operate Addl 1 (Literal 0) 27 ∷ []

-- ---- the routines

abbrev pub test_of : Routine → List Fields
test_of Divq = least_test SubqV
test_of Remq = least_test SubqV
test_of Divl = least_test SublV
test_of Reml = least_test SublV
test_of _ = []

abbrev pub operands_of : Routine → List Fields
operands_of Divqu = numbers
operands_of Remqu = numbers
operands_of Divlu = low_numbers
operands_of Remlu = low_numbers
operands_of _ = magnitudes

abbrev pub answer_of : Routine → List Fields
answer_of Divq = signed_quotient
answer_of Remq = signed_remainder
answer_of Divqu = []
answer_of Remqu = plain_remainder
answer_of Divl = signed_quotient
answer_of Reml = signed_remainder
answer_of Divlu = long_quotient
answer_of Remlu = long_remainder

-- where a routine, the common part and the part that leaves begin, in instructions
abbrev pub entry : Routine → ℕ
entry Divq = 0
entry Remq = 20
entry Divqu = 38
entry Remqu = 46
entry Divl = 55
entry Reml = 75
entry Divlu = 93
entry Remlu = 102

abbrev pub common_entry : ℕ
common_entry = 111

abbrev pub epilogue_entry : ℕ
epilogue_entry = 151

-- the part of a routine up to the common part, and the part behind it
abbrev pub opening_code : Routine → List Fields
opening_code r = test_of r ++ (prologue ++ operands_of r)

abbrev pub call_place : Routine → ℕ
call_place r = entry r + length (opening_code r)

abbrev pub exit_place : Routine → ℕ
exit_place r = call_place r + 1 + length (answer_of r)

abbrev pub routine_code : Routine → List Fields
routine_code r =
    opening_code r
    ++ (Branch Bsr 4 (pos (common_entry - (call_place r + 1)))
    ∷ (answer_of r ++ Branch Br 31 (pos (epilogue_entry - (exit_place r + 1))) ∷ []))

abbrev pub all_code : List Fields
all_code =
    routine_code Divq
    ++ (routine_code Remq
    ++ (routine_code Divqu
    ++ (routine_code Remqu
    ++ (routine_code Divl
    ++ (routine_code Reml
    ++ (routine_code Divlu
    ++ (routine_code Remlu
    ++ (common_part ++ epilogue))))))))
