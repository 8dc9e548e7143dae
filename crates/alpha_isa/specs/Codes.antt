-- The numbers that stand for the operations in a word, after the opcodes and function codes of the
-- Alpha Architecture Handbook, and the operation with a given number.
use Rattle.std.specs.Prelude.{ℕ, ◌&&◌, ◌==◌, List, [], ◌∷◌, Option, find}
use Rattle.alpha_isa.specs.declared.insn.MemoryOp.{MemoryOp}
use Rattle.alpha_isa.specs.declared.insn.MemoryOp.TheVariants.{Lda, Ldah, Ldbu, Ldwu, Stw, Stb, Ldl, Ldq, Stl, Stq}
use Rattle.alpha_isa.specs.declared.insn.BranchOp.{BranchOp}
use Rattle.alpha_isa.specs.declared.insn.BranchOp.TheVariants.{Br, Bsr, Blbc, Beq, Blt, Ble, Blbs, Bne, Bge, Bgt}
use Rattle.alpha_isa.specs.declared.insn.JumpOp.{JumpOp}
use Rattle.alpha_isa.specs.declared.insn.JumpOp.TheVariants.{Jmp, Jsr, Ret}
use Rattle.alpha_isa.specs.declared.insn.OperateOp.{OperateOp}
use Rattle.alpha_isa.specs.declared.insn.OperateOp.TheVariants.{Addl, Subl, Cmpult, Addq, S4addq, Subq, Cmpeq, S8addq, Cmpule, AddlV, SublV, Cmplt, AddqV, SubqV, Cmple, And, Bic, Bis, Cmoveq, Cmovne, Ornot, Xor, Eqv, Zapnot, Srl, Sll, Sra, Mull, Mulq, Umulh, MullV, MulqV, Sextb, Sextw}

-- the opcode of a load, a store or an address
abbrev pub memory_code : MemoryOp → ℕ
memory_code Lda = 0x08
memory_code Ldah = 0x09
memory_code Ldbu = 0x0A
memory_code Ldwu = 0x0C
memory_code Stw = 0x0D
memory_code Stb = 0x0E
memory_code Ldl = 0x28
memory_code Ldq = 0x29
memory_code Stl = 0x2C
memory_code Stq = 0x2D

-- the opcode of a branch
abbrev pub branch_code : BranchOp → ℕ
branch_code Br = 0x30
branch_code Bsr = 0x34
branch_code Blbc = 0x38
branch_code Beq = 0x39
branch_code Blt = 0x3A
branch_code Ble = 0x3B
branch_code Blbs = 0x3C
branch_code Bne = 0x3D
branch_code Bge = 0x3E
branch_code Bgt = 0x3F

-- the two bits that tell jumps apart, whose opcode is 1A
abbrev pub jump_code : JumpOp → ℕ
jump_code Jmp = 0x00
jump_code Jsr = 0x01
jump_code Ret = 0x02

-- the opcode of an operation, and its function code
abbrev pub operate_opcode : OperateOp → ℕ
operate_opcode Addl = 0x10
operate_opcode Subl = 0x10
operate_opcode Cmpult = 0x10
operate_opcode Addq = 0x10
operate_opcode S4addq = 0x10
operate_opcode Subq = 0x10
operate_opcode Cmpeq = 0x10
operate_opcode S8addq = 0x10
operate_opcode Cmpule = 0x10
operate_opcode AddlV = 0x10
operate_opcode SublV = 0x10
operate_opcode Cmplt = 0x10
operate_opcode AddqV = 0x10
operate_opcode SubqV = 0x10
operate_opcode Cmple = 0x10
operate_opcode And = 0x11
operate_opcode Bic = 0x11
operate_opcode Bis = 0x11
operate_opcode Cmoveq = 0x11
operate_opcode Cmovne = 0x11
operate_opcode Ornot = 0x11
operate_opcode Xor = 0x11
operate_opcode Eqv = 0x11
operate_opcode Zapnot = 0x12
operate_opcode Srl = 0x12
operate_opcode Sll = 0x12
operate_opcode Sra = 0x12
operate_opcode Mull = 0x13
operate_opcode Mulq = 0x13
operate_opcode Umulh = 0x13
operate_opcode MullV = 0x13
operate_opcode MulqV = 0x13
operate_opcode Sextb = 0x1C
operate_opcode Sextw = 0x1C

abbrev pub operate_function : OperateOp → ℕ
operate_function Addl = 0x00
operate_function Subl = 0x09
operate_function Cmpult = 0x1D
operate_function Addq = 0x20
operate_function S4addq = 0x22
operate_function Subq = 0x29
operate_function Cmpeq = 0x2D
operate_function S8addq = 0x32
operate_function Cmpule = 0x3D
operate_function AddlV = 0x40
operate_function SublV = 0x49
operate_function Cmplt = 0x4D
operate_function AddqV = 0x60
operate_function SubqV = 0x69
operate_function Cmple = 0x6D
operate_function And = 0x00
operate_function Bic = 0x08
operate_function Bis = 0x20
operate_function Cmoveq = 0x24
operate_function Cmovne = 0x26
operate_function Ornot = 0x28
operate_function Xor = 0x40
operate_function Eqv = 0x48
operate_function Zapnot = 0x31
operate_function Srl = 0x34
operate_function Sll = 0x39
operate_function Sra = 0x3C
operate_function Mull = 0x00
operate_function Mulq = 0x20
operate_function Umulh = 0x30
operate_function MullV = 0x40
operate_function MulqV = 0x60
operate_function Sextb = 0x00
operate_function Sextw = 0x01

-- all operations of a format
abbrev pub memory_ops : List MemoryOp
memory_ops = Lda ∷ Ldah ∷ Ldbu ∷ Ldwu ∷ Stw ∷ Stb ∷ Ldl ∷ Ldq ∷ Stl ∷ Stq ∷ []

abbrev pub branch_ops : List BranchOp
branch_ops = Br ∷ Bsr ∷ Blbc ∷ Beq ∷ Blt ∷ Ble ∷ Blbs ∷ Bne ∷ Bge ∷ Bgt ∷ []

abbrev pub jump_ops : List JumpOp
jump_ops = Jmp ∷ Jsr ∷ Ret ∷ []

abbrev pub operate_ops : List OperateOp
operate_ops =
    Addl ∷ Subl ∷ Cmpult ∷ Addq ∷ S4addq ∷ Subq ∷ Cmpeq ∷ S8addq ∷ Cmpule ∷ AddlV ∷ SublV ∷ Cmplt ∷ AddqV ∷ SubqV
    ∷ Cmple ∷ And ∷ Bic ∷ Bis ∷ Cmoveq ∷ Cmovne ∷ Ornot ∷ Xor ∷ Eqv ∷ Zapnot ∷ Srl ∷ Sll ∷ Sra ∷ Mull ∷ Mulq ∷ Umulh
    ∷ MullV ∷ MulqV ∷ Sextb ∷ Sextw ∷ []

-- the operation with these numbers
unfoldable pub memory_at : ℕ → Option MemoryOp
memory_at opcode = find (λ op. memory_code op == opcode) memory_ops

unfoldable pub branch_at : ℕ → Option BranchOp
branch_at opcode = find (λ op. branch_code op == opcode) branch_ops

unfoldable pub jump_at : ℕ → Option JumpOp
jump_at kind = find (λ op. jump_code op == kind) jump_ops

unfoldable pub operate_at : ℕ → ℕ → Option OperateOp
operate_at opcode function = find (λ op. (operate_opcode op == opcode) && (operate_function op == function)) operate_ops
