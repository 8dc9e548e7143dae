-- One turn of the copy of a block.
use Rattle.std.proofs.Common.{◌≡◌, ℕ, List, [], ◌∷◌, ◌++◌, sym, ap, ◌∙◌, append_assoc}
use Rattle.bk_ilist.specs.Listing.{items}
use Rattle.temp_ir.specs.declared.insn.TempInsn.{TempInsn}

pub insns_next : (copy : List TempInsn) (i : TempInsn) (rest all : List (ℕ × TempInsn)) (id : ℕ) → all ≡ (id, i) ∷ rest → (copy ++ i ∷ []) ++ items rest ≡ copy ++ items all
insns_next copy i rest all id is = append_assoc copy (i ∷ []) (items rest) ∙ sym (ap (λ x. copy ++ items x) is)
