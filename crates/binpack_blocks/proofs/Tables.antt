-- What an instruction names beside temporaries.
use Rattle.std.proofs.Common.{◌≡◌, ◌⊎◌, ℕ, [], ◌∷◌, refl, inl, inr}
use Rattle.temp_ir.specs.declared.insn.TempInsn.{TempInsn}
use Rattle.temp_ir.specs.declared.insn.TempInsn.TheVariants as i
use Rattle.temp_ir.specs.Insns.{writes_of}
use Rattle.temp_ir.specs.Fixed.{fixed_writes_of, ended_of}
use Rattle.alloc_model.specs.Effect.{Outgoing, places_written}

-- it writes no temporary, or one and nothing else
pub record WritesOne (x : TempInsn) : Type 0 where
  pub temp : ℕ
  pub one : writes_of x ≡ temp ∷ []
  pub fixed : fixed_writes_of x ≡ []
  pub ended : ended_of x ≡ []
  pub places : places_written x ≡ []

pub writes_alone : (x : TempInsn) → (writes_of x ≡ []) ⊎ WritesOne x
writes_alone (i.Address op destination base plus) = inr (record { temp = destination; one = refl; fixed = refl; ended = refl; places = refl })
writes_alone (i.ObjectAddress destination place plus) = inr (record { temp = destination; one = refl; fixed = refl; ended = refl; places = refl })
writes_alone (i.Load op destination pointer plus) = inr (record { temp = destination; one = refl; fixed = refl; ended = refl; places = refl })
writes_alone (i.Store op value pointer plus) = inl refl
writes_alone (i.Operate op destination left right) = inr (record { temp = destination; one = refl; fixed = refl; ended = refl; places = refl })
writes_alone (i.Extend op destination source) = inr (record { temp = destination; one = refl; fixed = refl; ended = refl; places = refl })
writes_alone (i.ToFixed register source) = inl refl
writes_alone (i.FromFixed destination register) = inr (record { temp = destination; one = refl; fixed = refl; ended = refl; places = refl })
writes_alone (i.SetFixed register number) = inl refl
writes_alone (i.WriteArgument number source) = inl refl
writes_alone (i.ReadArgument destination number) = inr (record { temp = destination; one = refl; fixed = refl; ended = refl; places = refl })
writes_alone (i.Branch op source block) = inl refl
writes_alone (i.Jump block) = inl refl
writes_alone (i.Call function arguments) = inl refl
writes_alone (i.Divide routine) = inl refl
writes_alone (i.Serve service) = inl refl
writes_alone (i.Return with_value) = inl refl
writes_alone i.Mark = inl refl

-- besides fixed registers it writes an argument place at most
pub places_are : (x : TempInsn) → (places_written x ≡ []) ⊎ ((k : ℕ) × (places_written x ≡ Outgoing k ∷ []))
places_are (i.Address op destination base plus) = inl refl
places_are (i.ObjectAddress destination place plus) = inl refl
places_are (i.Load op destination pointer plus) = inl refl
places_are (i.Store op value pointer plus) = inl refl
places_are (i.Operate op destination left right) = inl refl
places_are (i.Extend op destination source) = inl refl
places_are (i.ToFixed register source) = inl refl
places_are (i.FromFixed destination register) = inl refl
places_are (i.SetFixed register number) = inl refl
places_are (i.WriteArgument number source) = inr (number, refl)
places_are (i.ReadArgument destination number) = inl refl
places_are (i.Branch op source block) = inl refl
places_are (i.Jump block) = inl refl
places_are (i.Call function arguments) = inl refl
places_are (i.Divide routine) = inl refl
places_are (i.Serve service) = inl refl
places_are (i.Return with_value) = inl refl
places_are i.Mark = inl refl
