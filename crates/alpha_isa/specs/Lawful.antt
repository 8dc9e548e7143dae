-- The fields of an instruction that has a word.
use Rattle.std.specs.Prelude.{◌≡◌, ℕ, ◌^◌, ◌<◌, ℤ, pos, negsuc, Bool, IsTrue, ◌||◌, ◌==◌}
use Rattle.alpha_isa.specs.declared.insn.Fields.{Fields}
use Rattle.alpha_isa.specs.declared.insn.Fields.TheVariants as fields
use Rattle.alpha_isa.specs.declared.insn.Operand.{Operand}
use Rattle.alpha_isa.specs.declared.insn.Operand.TheVariants.{Reg, Literal}
use Rattle.alpha_isa.specs.declared.insn.OperateOp.{OperateOp}
use Rattle.alpha_isa.specs.declared.insn.OperateOp.TheVariants.{Sextb, Sextw}

-- one of the 32 registers
abbrev pub IsRegister : ℕ → Type 0
IsRegister r = r < 32

-- a register or a literal of 8 bits
abbrev pub IsOperand : Operand → Type 0
IsOperand (Reg r) = IsRegister r
IsOperand (Literal n) = n < 256

-- a number of 16 bits in two's complement, and one of 21 bits
abbrev pub IsDisplacement : ℤ → Type 0
IsDisplacement (pos n) = n < 2 ^ 15
IsDisplacement (negsuc n) = n < 2 ^ 15

abbrev pub IsBranchDisplacement : ℤ → Type 0
IsBranchDisplacement (pos n) = n < 2 ^ 20
IsBranchDisplacement (negsuc n) = n < 2 ^ 20

-- the sign extensions have one operand alone, and their first register is 31
abbrev pub IsFirstOperand : OperateOp → ℕ → Type 0
IsFirstOperand Sextb ra = ra ≡ 31
IsFirstOperand Sextw ra = ra ≡ 31
IsFirstOperand _ ra = IsRegister ra

-- the calls of privileged code that there are: a service, and a trap
abbrev pub is_pal_function : ℕ → Bool
is_pal_function function = (function == 0x83) || (function == 0xAA)

-- each field is in its range
abbrev pub AreLawfulFields : Fields → Type 0
AreLawfulFields (fields.Memory op ra rb disp) = IsRegister ra × IsRegister rb × IsDisplacement disp
AreLawfulFields (fields.Branch op ra disp) = IsRegister ra × IsBranchDisplacement disp
AreLawfulFields (fields.Jump op ra rb) = IsRegister ra × IsRegister rb
AreLawfulFields (fields.Operate op ra rb rc) = IsFirstOperand op ra × IsOperand rb × IsRegister rc
AreLawfulFields (fields.Pal function) = IsTrue (is_pal_function function)
