-- Code that puts what it wants into the temporary 0, and a last instruction that writes the temporary of a register.
use Rattle.std.proofs.Common.{◌≡◌, ℕ, List, [], ◌∷◌, ◌++◌, Bool, true, false, refl, ap, ◌∙◌, arith}
use Rattle.std.specs.Prelude.{map, ◌==◌, if◌then◌else◌}
use Rattle.std.proofs.lemmas.Bool.{eqb-true}
use Rattle.mem_model.specs.World.{Outer}
use Rattle.machine_model.specs.Code.{Writes}
use Rattle.suifvm_meaning.specs.declared.answer.Answer as vm
use Rattle.suifvm_meaning.specs.declared.answer.Answer.TheVariants as v
use Rattle.temp_ir.specs.declared.insn.TempInsn.{TempInsn}
use Rattle.alloc_model.specs.Contents.{Content, Plain, ContentAnswer, Gives, TrapsWith}
use Rattle.alloc_model.specs.Stores.{without, put}
use Rattle.alloc_model.specs.Effect.{Temp, holder_eq, holders_read, is_emptied, does, writes}
use Rattle.alloc_model.specs.Temporaries.{Temps}
use Rattle.selection_forms.specs.alpha_forms.Straight.{After, NotStraight, goes_with, runs, PutsContent}
use Rattle.selection_forms.specs.alpha_forms.Registers.{IsOfRegister, CodeAnswers}
use Rattle.selection_forms.proofs.AlphaForms.Runs.{on_after, runs-append, WritesOne, step_writes, put_here, put_beside, without_plain}

of_register : (t : ℕ) → IsOfRegister t → (t == 0) ≡ false
of_register t i = by_test (t == 0) refl
  where
    by_test : (b : Bool) → (t == 0) ≡ b → b ≡ false
    by_test true e = let z : t ≡ 0 = eqb-true t 0 e in absurd (omega (arith, z))
    by_test false e = refl

-- what an instruction answers over temporaries is what it answers over registers, where that has a meaning
abbrev pub Matches : vm.Answer → ContentAnswer → Type 0
Matches (v.Gives w) a = a ≡ Gives (Plain w)
Matches (v.TrapsWith code) a = a ≡ TrapsWith code
Matches v.Fails a = Unit {0}

module _ (widest own : ℕ) (s : Temps) (o : Outer) where
  -- the code goes on, the temporary 0 holds a content, and what stands for registers holds what it held
  pub record PreparesContent (xs : List TempInsn) (c : Content) : Type 0 where
    pub after : Temps
    pub ran : runs widest xs own s o ≡ After after o
    pub holds : after (Temp 0) ≡ c
    pub kept : (t : ℕ) → IsOfRegister t → after (Temp t) ≡ s (Temp t)

  abbrev pub nothing_yet : PreparesContent [] (s (Temp 0))
  nothing_yet = record { after = s; ran = refl; holds = refl; kept = λ t i. refl }

  pub from_put : (xs : List TempInsn) (c : Content) → PutsContent widest xs own s o 0 c → PreparesContent xs c
  from_put xs c h =
      record { after = h.after; ran = h.ran; holds = h.holds; kept = λ t i. h.kept (Temp t) (of_register t i) }

  -- an instruction more that writes the temporary 0
  pub prepare : (xs : List TempInsn) (c : Content) (h : PreparesContent xs c) (x : TempInsn) (e : Content) → WritesOne x 0 →
      does widest x own (map h.after (holders_read x)) o ≡ Writes (e ∷ []) o → PreparesContent (xs ++ x ∷ []) e
  prepare xs c h x e one act = record {
    after = put holder_eq (Temp 0) e (without (is_emptied x) h.after);
    ran = runs-append widest xs (x ∷ []) own s o ∙ ap (λ r. on_after r (λ t p. runs widest (x ∷ []) own t p)) h.ran
        ∙ step_writes widest x [] own h.after o o 0 e one act;
    holds = put_here 0 e (without (is_emptied x) h.after);
    kept = λ t i. put_beside 0 e (without (is_emptied x) h.after) (Temp t) (of_register t i) ∙ without_plain x one.call h.after (Temp t) ∙ h.kept t i;
  }

  -- the last instruction
  pub finish : (xs : List TempInsn) (c : Content) (h : PreparesContent xs c) (x : TempInsn) (d : ℕ) (a : ContentAnswer) (w : vm.Answer) → WritesOne x d →
      does widest x own (map h.after (holders_read x)) o ≡ writes a o → Matches w a → CodeAnswers s o d w (runs widest (xs ++ x ∷ []) own s o)
  finish xs c h x d a (v.Gives w) one act m = record {
    after = put holder_eq (Temp d) (Plain w) (without (is_emptied x) h.after);
    goes_on = runs-append widest xs (x ∷ []) own s o ∙ ap (λ r. on_after r (λ t p. runs widest (x ∷ []) own t p)) h.ran
        ∙ step_writes widest x [] own h.after o o d (Plain w) one (act ∙ ap (λ b. writes b o) m);
    holds = put_here d (Plain w) (without (is_emptied x) h.after);
    kept = λ t i other. put_beside d (Plain w) (without (is_emptied x) h.after) (Temp t) other ∙ without_plain x one.call h.after (Temp t) ∙ h.kept t i;
  }
  finish xs c h x d a (v.TrapsWith code) one act m =
      runs-append widest xs (x ∷ []) own s o ∙ ap (λ r. on_after r (λ t p. runs widest (x ∷ []) own t p)) h.ran
      ∙ ap (λ b. if b then NotStraight else goes_with x h.after (does widest x own (map h.after (holders_read x)) o) (λ t p. After t p)) one.turn
      ∙ ap (λ b. goes_with x h.after b (λ t p. After t p)) (act ∙ ap (λ b. writes b o) m)
  finish xs c h x d a v.Fails one act m = tt
