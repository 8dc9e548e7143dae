-- One more instruction of a block.
use Rattle.std.proofs.Common.{◌≡◌, ℕ, List, [], ◌∷◌, ◌++◌, sym, ap, ◌∙◌, map, append_assoc}
use Rattle.bk_ilist.specs.Listing.{items}
use Rattle.temp_ir.specs.declared.insn.TempInsn.{TempInsn}
use Rattle.frame_emitter.specs.Settings.{near_insn}

pub insns_next : (out : List TempInsn) (i : TempInsn) (rest all : List (ℕ × TempInsn)) (id : ℕ) → all ≡ (id, i) ∷ rest
    → (out ++ near_insn i ∷ []) ++ map near_insn (items rest) ≡ out ++ map near_insn (items all)
insns_next out i rest all id is =
    append_assoc out (near_insn i ∷ []) (map near_insn (items rest)) ∙ sym (ap (λ x. out ++ map near_insn (items x)) is)
