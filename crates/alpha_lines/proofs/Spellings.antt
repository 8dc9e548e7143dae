-- A mnemonic stands alone up to the first blank, and its spelling is no other's.
use Rattle.std.proofs.Common.{◌≡◌, List, ℕ, Some, refl}
use Rattle.std.specs.Prelude.{bytes_eq}
use Rattle.std.proofs.lemmas.Slice.Eq.{bytes_eq-Decides}
use Rattle.alpha_isa.specs.declared.insn.MemoryOp.TheVariants.{Lda, Ldah, Ldbu, Ldwu, Stw, Stb, Ldl, Ldq, Stl, Stq}
use Rattle.alpha_isa.specs.declared.insn.BranchOp.TheVariants.{Br, Bsr, Blbc, Beq, Blt, Ble, Blbs, Bne, Bge, Bgt}
use Rattle.alpha_isa.specs.declared.insn.JumpOp.TheVariants.{Jmp, Jsr, Ret}
use Rattle.alpha_isa.specs.declared.insn.OperateOp.TheVariants.{Addl, Subl, Cmpult, Addq, S4addq, Subq, Cmpeq, S8addq, Cmpule, AddlV, SublV, Cmplt, AddqV, SubqV, Cmple, And, Bic, Bis, Cmoveq, Cmovne, Ornot, Xor, Eqv, Zapnot, Srl, Sll, Sra, Mull, Mulq, Umulh, MullV, MulqV, Sextb, Sextw}
use Rattle.alpha_lines.specs.declared.mnemonic.Mnemonic.{Mnemonic}
use Rattle.alpha_lines.specs.declared.mnemonic.Mnemonic.TheVariants as m
use Rattle.alpha_lines.specs.model.Mnemonics.{spelling, mnemonics, mnemonic_of}
use Rattle.alpha_lines.specs.Lines.{word_and_rest}
use Rattle.alpha_lines.specs.model.Parts.{cut}
use Rattle.alpha_lines.proofs.Options.{found_passes}

pub spelled_cut : (word : Mnemonic) (rest : List ℕ) → cut 32 (word_and_rest (spelling word) rest) ≡ Some (spelling word, rest)
spelled_cut (m.Memory Lda) rest = refl
spelled_cut (m.Memory Ldah) rest = refl
spelled_cut (m.Memory Ldbu) rest = refl
spelled_cut (m.Memory Ldwu) rest = refl
spelled_cut (m.Memory Stw) rest = refl
spelled_cut (m.Memory Stb) rest = refl
spelled_cut (m.Memory Ldl) rest = refl
spelled_cut (m.Memory Ldq) rest = refl
spelled_cut (m.Memory Stl) rest = refl
spelled_cut (m.Memory Stq) rest = refl
spelled_cut (m.Branch Br) rest = refl
spelled_cut (m.Branch Bsr) rest = refl
spelled_cut (m.Branch Blbc) rest = refl
spelled_cut (m.Branch Beq) rest = refl
spelled_cut (m.Branch Blt) rest = refl
spelled_cut (m.Branch Ble) rest = refl
spelled_cut (m.Branch Blbs) rest = refl
spelled_cut (m.Branch Bne) rest = refl
spelled_cut (m.Branch Bge) rest = refl
spelled_cut (m.Branch Bgt) rest = refl
spelled_cut (m.Jump Jmp) rest = refl
spelled_cut (m.Jump Jsr) rest = refl
spelled_cut (m.Jump Ret) rest = refl
spelled_cut (m.Operate Addl) rest = refl
spelled_cut (m.Operate Subl) rest = refl
spelled_cut (m.Operate Cmpult) rest = refl
spelled_cut (m.Operate Addq) rest = refl
spelled_cut (m.Operate S4addq) rest = refl
spelled_cut (m.Operate Subq) rest = refl
spelled_cut (m.Operate Cmpeq) rest = refl
spelled_cut (m.Operate S8addq) rest = refl
spelled_cut (m.Operate Cmpule) rest = refl
spelled_cut (m.Operate AddlV) rest = refl
spelled_cut (m.Operate SublV) rest = refl
spelled_cut (m.Operate Cmplt) rest = refl
spelled_cut (m.Operate AddqV) rest = refl
spelled_cut (m.Operate SubqV) rest = refl
spelled_cut (m.Operate Cmple) rest = refl
spelled_cut (m.Operate And) rest = refl
spelled_cut (m.Operate Bic) rest = refl
spelled_cut (m.Operate Bis) rest = refl
spelled_cut (m.Operate Cmoveq) rest = refl
spelled_cut (m.Operate Cmovne) rest = refl
spelled_cut (m.Operate Ornot) rest = refl
spelled_cut (m.Operate Xor) rest = refl
spelled_cut (m.Operate Eqv) rest = refl
spelled_cut (m.Operate Zapnot) rest = refl
spelled_cut (m.Operate Srl) rest = refl
spelled_cut (m.Operate Sll) rest = refl
spelled_cut (m.Operate Sra) rest = refl
spelled_cut (m.Operate Mull) rest = refl
spelled_cut (m.Operate Mulq) rest = refl
spelled_cut (m.Operate Umulh) rest = refl
spelled_cut (m.Operate MullV) rest = refl
spelled_cut (m.Operate MulqV) rest = refl
spelled_cut (m.Operate Sextb) rest = refl
spelled_cut (m.Operate Sextw) rest = refl
spelled_cut m.CallPal rest = refl
spelled_cut m.Entry rest = refl
spelled_cut m.TextAddress rest = refl
spelled_cut m.DataAddress rest = refl

pub spelled_found : (word : Mnemonic) → mnemonic_of (spelling word) ≡ Some word
unfolding mnemonic_of mnemonics
spelled_found (m.Memory Lda) = refl
spelled_found (m.Memory Ldah) = refl
spelled_found (m.Memory Ldbu) = refl
spelled_found (m.Memory Ldwu) = refl
spelled_found (m.Memory Stw) = refl
spelled_found (m.Memory Stb) = refl
spelled_found (m.Memory Ldl) = refl
spelled_found (m.Memory Ldq) = refl
spelled_found (m.Memory Stl) = refl
spelled_found (m.Memory Stq) = refl
spelled_found (m.Branch Br) = refl
spelled_found (m.Branch Bsr) = refl
spelled_found (m.Branch Blbc) = refl
spelled_found (m.Branch Beq) = refl
spelled_found (m.Branch Blt) = refl
spelled_found (m.Branch Ble) = refl
spelled_found (m.Branch Blbs) = refl
spelled_found (m.Branch Bne) = refl
spelled_found (m.Branch Bge) = refl
spelled_found (m.Branch Bgt) = refl
spelled_found (m.Jump Jmp) = refl
spelled_found (m.Jump Jsr) = refl
spelled_found (m.Jump Ret) = refl
spelled_found (m.Operate Addl) = refl
spelled_found (m.Operate Subl) = refl
spelled_found (m.Operate Cmpult) = refl
spelled_found (m.Operate Addq) = refl
spelled_found (m.Operate S4addq) = refl
spelled_found (m.Operate Subq) = refl
spelled_found (m.Operate Cmpeq) = refl
spelled_found (m.Operate S8addq) = refl
spelled_found (m.Operate Cmpule) = refl
spelled_found (m.Operate AddlV) = refl
spelled_found (m.Operate SublV) = refl
spelled_found (m.Operate Cmplt) = refl
spelled_found (m.Operate AddqV) = refl
spelled_found (m.Operate SubqV) = refl
spelled_found (m.Operate Cmple) = refl
spelled_found (m.Operate And) = refl
spelled_found (m.Operate Bic) = refl
spelled_found (m.Operate Bis) = refl
spelled_found (m.Operate Cmoveq) = refl
spelled_found (m.Operate Cmovne) = refl
spelled_found (m.Operate Ornot) = refl
spelled_found (m.Operate Xor) = refl
spelled_found (m.Operate Eqv) = refl
spelled_found (m.Operate Zapnot) = refl
spelled_found (m.Operate Srl) = refl
spelled_found (m.Operate Sll) = refl
spelled_found (m.Operate Sra) = refl
spelled_found (m.Operate Mull) = refl
spelled_found (m.Operate Mulq) = refl
spelled_found (m.Operate Umulh) = refl
spelled_found (m.Operate MullV) = refl
spelled_found (m.Operate MulqV) = refl
spelled_found (m.Operate Sextb) = refl
spelled_found (m.Operate Sextw) = refl
spelled_found m.CallPal = refl
spelled_found m.Entry = refl
spelled_found m.TextAddress = refl
spelled_found m.DataAddress = refl

pub mnemonic_sound : (s : List ℕ) (word : Mnemonic) → mnemonic_of s ≡ Some word → s ≡ spelling word
unfolding mnemonic_of
mnemonic_sound s word e = (bytes_eq-Decides s (spelling word)).0 (found_passes (λ w. bytes_eq s (spelling w)) mnemonics word e)
