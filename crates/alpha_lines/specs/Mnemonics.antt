-- The mnemonics of the instructions, after the Alpha Architecture Handbook, and the words of the other lines.
use Rattle.std.specs.Prelude.{ℕ, List, codes}
use Rattle.alpha_isa.specs.declared.insn.MemoryOp.{MemoryOp}
use Rattle.alpha_isa.specs.declared.insn.MemoryOp.TheVariants.{Lda, Ldah, Ldbu, Ldwu, Stw, Stb, Ldl, Ldq, Stl, Stq}
use Rattle.alpha_isa.specs.declared.insn.BranchOp.{BranchOp}
use Rattle.alpha_isa.specs.declared.insn.BranchOp.TheVariants.{Br, Bsr, Blbc, Beq, Blt, Ble, Blbs, Bne, Bge, Bgt}
use Rattle.alpha_isa.specs.declared.insn.JumpOp.{JumpOp}
use Rattle.alpha_isa.specs.declared.insn.JumpOp.TheVariants.{Jmp, Jsr, Ret}
use Rattle.alpha_isa.specs.declared.insn.OperateOp.{OperateOp}
use Rattle.alpha_isa.specs.declared.insn.OperateOp.TheVariants.{Addl, Subl, Cmpult, Addq, S4addq, Subq, Cmpeq, S8addq, Cmpule, AddlV, SublV, Cmplt, AddqV, SubqV, Cmple, And, Bic, Bis, Cmoveq, Cmovne, Ornot, Xor, Eqv, Zapnot, Srl, Sll, Sra, Mull, Mulq, Umulh, MullV, MulqV, Sextb, Sextw}

-- loads, stores and addresses
abbrev pub memory_word : MemoryOp → List ℕ
memory_word Lda = codes "lda"
memory_word Ldah = codes "ldah"
memory_word Ldbu = codes "ldbu"
memory_word Ldwu = codes "ldwu"
memory_word Stw = codes "stw"
memory_word Stb = codes "stb"
memory_word Ldl = codes "ldl"
memory_word Ldq = codes "ldq"
memory_word Stl = codes "stl"
memory_word Stq = codes "stq"

-- branches
abbrev pub branch_word : BranchOp → List ℕ
branch_word Br = codes "br"
branch_word Bsr = codes "bsr"
branch_word Blbc = codes "blbc"
branch_word Beq = codes "beq"
branch_word Blt = codes "blt"
branch_word Ble = codes "ble"
branch_word Blbs = codes "blbs"
branch_word Bne = codes "bne"
branch_word Bge = codes "bge"
branch_word Bgt = codes "bgt"

-- jumps
abbrev pub jump_word : JumpOp → List ℕ
jump_word Jmp = codes "jmp"
jump_word Jsr = codes "jsr"
jump_word Ret = codes "ret"

-- operations, where those that trap end in `/v`
abbrev pub operate_word : OperateOp → List ℕ
operate_word Addl = codes "addl"
operate_word Subl = codes "subl"
operate_word Cmpult = codes "cmpult"
operate_word Addq = codes "addq"
operate_word S4addq = codes "s4addq"
operate_word Subq = codes "subq"
operate_word Cmpeq = codes "cmpeq"
operate_word S8addq = codes "s8addq"
operate_word Cmpule = codes "cmpule"
operate_word AddlV = codes "addl/v"
operate_word SublV = codes "subl/v"
operate_word Cmplt = codes "cmplt"
operate_word AddqV = codes "addq/v"
operate_word SubqV = codes "subq/v"
operate_word Cmple = codes "cmple"
operate_word And = codes "and"
operate_word Bic = codes "bic"
operate_word Bis = codes "bis"
operate_word Cmoveq = codes "cmoveq"
operate_word Cmovne = codes "cmovne"
operate_word Ornot = codes "ornot"
operate_word Xor = codes "xor"
operate_word Eqv = codes "eqv"
operate_word Zapnot = codes "zapnot"
operate_word Srl = codes "srl"
operate_word Sll = codes "sll"
operate_word Sra = codes "sra"
operate_word Mull = codes "mull"
operate_word Mulq = codes "mulq"
operate_word Umulh = codes "umulh"
operate_word MullV = codes "mull/v"
operate_word MulqV = codes "mulq/v"
operate_word Sextb = codes "sextb"
operate_word Sextw = codes "sextw"
