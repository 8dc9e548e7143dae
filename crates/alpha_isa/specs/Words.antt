-- The word of an instruction, and the instruction of a word, by the formats of the Alpha Architecture Handbook.
use Rattle.std.specs.Prelude.{ℕ, ◌+◌, ◌-◌, ◌*◌, ◌/◌, ◌%◌, ◌^◌, nat_lt, ℤ, pos, negsuc, Bool, true, false, not, ◌&&◌, ◌||◌, ◌==◌, if◌then◌else◌, Option, Some, None, option_map}
use Rattle.std.specs.Int.{w16, cast_unsigned, cast_signed}
use Rattle.alpha_isa.specs.declared.insn.Fields.{Fields}
use Rattle.alpha_isa.specs.declared.insn.Fields.TheVariants as fields
use Rattle.alpha_isa.specs.declared.insn.Operand.{Operand}
use Rattle.alpha_isa.specs.declared.insn.Operand.TheVariants.{Reg, Literal}
use Rattle.alpha_isa.specs.declared.insn.OperateOp.{OperateOp}
use Rattle.alpha_isa.specs.declared.insn.OperateOp.TheVariants.{Sextb, Sextw}
use Rattle.alpha_isa.specs.Lawful.{is_pal_function}
use Rattle.alpha_isa.specs.Codes.{memory_code, branch_code, jump_code, operate_opcode, operate_function, memory_at, branch_at, jump_at, operate_at}

-- a number of 21 bits in two's complement, and back
abbrev pub branch_bits : ℤ → ℕ
branch_bits (pos n) = n
branch_bits (negsuc n) = 2 ^ 21 - 1 - n

abbrev pub branch_displacement : ℕ → ℤ
branch_displacement n = if nat_lt n (2 ^ 20) then pos n else negsuc (2 ^ 21 - 1 - n)

-- the bits 20 to 12 of a second operand
abbrev pub operand_bits : Operand → ℕ
operand_bits (Reg r) = r * 2 ^ 16
operand_bits (Literal n) = n * 2 ^ 13 + 2 ^ 12

-- the word that stands for an instruction
abbrev pub insn_word : Fields → ℕ
insn_word (fields.Memory op ra rb disp) = memory_code op * 2 ^ 26 + ra * 2 ^ 21 + rb * 2 ^ 16 + cast_unsigned w16 disp
insn_word (fields.Branch op ra disp) = branch_code op * 2 ^ 26 + ra * 2 ^ 21 + branch_bits disp
insn_word (fields.Jump op ra rb) = 0x1A * 2 ^ 26 + ra * 2 ^ 21 + rb * 2 ^ 16 + jump_code op * 2 ^ 14
insn_word (fields.Operate op ra rb rc) =
    operate_opcode op * 2 ^ 26 + ra * 2 ^ 21 + operand_bits rb + operate_function op * 2 ^ 5 + rc
insn_word (fields.Pal function) = function

-- the fields of a word
abbrev pub opcode_of : ℕ → ℕ
opcode_of word = word / 2 ^ 26

abbrev pub ra_of : ℕ → ℕ
ra_of word = word / 2 ^ 21 % 32

abbrev pub rb_of : ℕ → ℕ
rb_of word = word / 2 ^ 16 % 32

abbrev pub rc_of : ℕ → ℕ
rc_of word = word % 32

-- the second operand: bit 12 tells a literal from a register, behind which bits 15 to 12 are zero
abbrev pub operand_at : ℕ → Option Operand
operand_at word =
    if word / 2 ^ 12 % 2 == 1 then Some (Literal (word / 2 ^ 13 % 256))
    else if word / 2 ^ 12 % 16 == 0 then Some (Reg (rb_of word)) else None

-- the operation of a word, whose first register is 31 at a sign extension
abbrev pub extends : OperateOp → Bool
extends Sextb = true
extends Sextw = true
extends _ = false

abbrev pub operation : Option OperateOp → Option Operand → ℕ → ℕ → Option Fields
operation (Some op) (Some rb) ra rc = if extends op && not (ra == 31) then None else Some (fields.Operate op ra rb rc)
operation _ _ ra rc = None

-- the instruction of a word, by format
unfoldable pub memory_insn : ℕ → Option Fields
memory_insn word =
    option_map (λ op. fields.Memory op (ra_of word) (rb_of word) (cast_signed w16 (word % 2 ^ 16)))
    (memory_at (opcode_of word))

unfoldable pub branch_insn : ℕ → Option Fields
branch_insn word =
    option_map (λ op. fields.Branch op (ra_of word) (branch_displacement (word % 2 ^ 21))) (branch_at (opcode_of word))

unfoldable pub jump_insn : ℕ → Option Fields
jump_insn word =
    if word % 2 ^ 14 == 0 then option_map (λ op. fields.Jump op (ra_of word) (rb_of word)) (jump_at (word / 2 ^ 14 % 4))
    else None

unfoldable pub operate_insn : ℕ → Option Fields
operate_insn word =
    operation (operate_at (opcode_of word) (word / 2 ^ 5 % 128)) (operand_at word) (ra_of word) (rc_of word)

unfoldable pub pal_insn : ℕ → Option Fields
pal_insn word = if is_pal_function word then Some (fields.Pal word) else None

-- whether an opcode is that of an operation
abbrev pub is_operate : ℕ → Bool
is_operate opcode = (opcode == 0x10) || (opcode == 0x11) || (opcode == 0x12) || (opcode == 0x13) || (opcode == 0x1C)

-- the instruction that a word stands for, if any
unfoldable pub insn_of : ℕ → Option Fields
insn_of word =
    if opcode_of word == 0 then pal_insn word
    else if opcode_of word == 0x1A then jump_insn word
    else if is_operate (opcode_of word) then operate_insn word
    else if nat_lt (opcode_of word) 0x30 then memory_insn word
    else branch_insn word
