-- The words that a line may begin with, and which of them it begins with.
use Rattle.std.specs.Prelude.{ℕ, List, [], ◌∷◌, Option, find, codes, bytes_eq}
use Rattle.alpha_isa.specs.declared.insn.MemoryOp.TheVariants.{Lda, Ldah, Ldbu, Ldwu, Stw, Stb, Ldl, Ldq, Stl, Stq}
use Rattle.alpha_isa.specs.declared.insn.BranchOp.TheVariants.{Br, Bsr, Blbc, Beq, Blt, Ble, Blbs, Bne, Bge, Bgt}
use Rattle.alpha_isa.specs.declared.insn.JumpOp.TheVariants.{Jmp, Jsr, Ret}
use Rattle.alpha_isa.specs.declared.insn.OperateOp.TheVariants.{Addl, Subl, Cmpult, Addq, S4addq, Subq, Cmpeq, S8addq, Cmpule, AddlV, SublV, Cmplt, AddqV, SubqV, Cmple, And, Bic, Bis, Cmoveq, Cmovne, Ornot, Xor, Eqv, Zapnot, Srl, Sll, Sra, Mull, Mulq, Umulh, MullV, MulqV, Sextb, Sextw}
use Rattle.alpha_lines.specs.declared.mnemonic.Mnemonic.{Mnemonic}
use Rattle.alpha_lines.specs.declared.mnemonic.Mnemonic.TheVariants as m
use Rattle.alpha_lines.specs.Mnemonics.{memory_word, branch_word, jump_word, operate_word}

-- what a line begins with, up to its first blank
abbrev pub spelling : Mnemonic → List ℕ
spelling (m.Memory op) = memory_word op
spelling (m.Branch op) = branch_word op
spelling (m.Jump op) = jump_word op
spelling (m.Operate op) = operate_word op
spelling m.CallPal = codes "call_pal"
spelling m.Entry = codes ".ent"
spelling m.TextAddress = codes ".text"
spelling m.DataAddress = codes ".addr"

-- all of them
unfoldable pub mnemonics : List Mnemonic
mnemonics = m.Memory Lda ∷ m.Memory Ldah ∷ m.Memory Ldbu ∷ m.Memory Ldwu ∷ m.Memory Stw ∷ m.Memory Stb ∷
    m.Memory Ldl ∷ m.Memory Ldq ∷ m.Memory Stl ∷ m.Memory Stq ∷ m.Branch Br ∷ m.Branch Bsr ∷ m.Branch Blbc ∷
    m.Branch Beq ∷ m.Branch Blt ∷ m.Branch Ble ∷ m.Branch Blbs ∷ m.Branch Bne ∷ m.Branch Bge ∷ m.Branch Bgt ∷
    m.Jump Jmp ∷ m.Jump Jsr ∷ m.Jump Ret ∷ m.Operate Addl ∷ m.Operate Subl ∷ m.Operate Cmpult ∷
    m.Operate Addq ∷ m.Operate S4addq ∷ m.Operate Subq ∷ m.Operate Cmpeq ∷ m.Operate S8addq ∷
    m.Operate Cmpule ∷ m.Operate AddlV ∷ m.Operate SublV ∷ m.Operate Cmplt ∷ m.Operate AddqV ∷
    m.Operate SubqV ∷ m.Operate Cmple ∷ m.Operate And ∷ m.Operate Bic ∷ m.Operate Bis ∷ m.Operate Cmoveq ∷
    m.Operate Cmovne ∷ m.Operate Ornot ∷ m.Operate Xor ∷ m.Operate Eqv ∷ m.Operate Zapnot ∷ m.Operate Srl ∷
    m.Operate Sll ∷ m.Operate Sra ∷ m.Operate Mull ∷ m.Operate Mulq ∷ m.Operate Umulh ∷ m.Operate MullV ∷
    m.Operate MulqV ∷ m.Operate Sextb ∷ m.Operate Sextw ∷ m.CallPal ∷ m.Entry ∷ m.TextAddress ∷
    m.DataAddress ∷ []

-- the one that is spelled so
unfoldable pub mnemonic_of : List ℕ → Option Mnemonic
mnemonic_of word = find (λ m. bytes_eq word (spelling m)) mnemonics
