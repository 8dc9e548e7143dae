-- Straight code behind straight code, and instructions that write one temporary.
use Rattle.std.proofs.Common.{◌≡◌, ℕ, List, [], ◌∷◌, ◌++◌, Bool, true, false, refl, ap, ◌∙◌, eq-eqb}
use Rattle.std.specs.Prelude.{map, if◌then◌else◌}
use Rattle.mem_model.specs.World.{Outer}
use Rattle.machine_model.specs.Code.{Act, Writes, Jumps, Calls, Returns, Stops}
use Rattle.temp_ir.specs.declared.insn.TempInsn.{TempInsn}
use Rattle.alloc_model.specs.Contents.{Content, unset_content}
use Rattle.alloc_model.specs.Stores.{without, put, put_all}
use Rattle.alloc_model.specs.Effect.{Holder, Temp, Fixed, Incoming, Outgoing, holder_eq, holders_read, holders_written, calls_function, is_emptied, does, takes_turn}
use Rattle.alloc_model.specs.Temporaries.{Temps}
use Rattle.selection_forms.specs.alpha_forms.Straight.{Ran, After, Halted, NotStraight, goes_with, runs, PutsContent}

-- code behind code
abbrev pub on_after : Ran → (Temps → Outer → Ran) → Ran
on_after (After t p) rest = rest t p
on_after (Halted e p) rest = Halted e p
on_after NotStraight rest = NotStraight

pub runs-append : (widest : ℕ) (xs ys : List TempInsn) (own : ℕ) (s : Temps) (o : Outer) →
    runs widest (xs ++ ys) own s o ≡ on_after (runs widest xs own s o) (λ t p. runs widest ys own t p)
runs-append widest [] ys own s o = refl
runs-append widest (x ∷ xs) ys own s o =
    by_turn (takes_turn x) (does widest x own (map s (holders_read x)) o) (λ t p. runs-append widest xs ys own t p)
  where
    by_turn : (b : Bool) (a : Act Content) →
        ((t : Temps) (p : Outer) → runs widest (xs ++ ys) own t p ≡ on_after (runs widest xs own t p) (λ t p. runs widest ys own t p)) →
        (if b then NotStraight else goes_with x s a (λ t p. runs widest (xs ++ ys) own t p))
        ≡ on_after (if b then NotStraight else goes_with x s a (λ t p. runs widest xs own t p)) (λ t p. runs widest ys own t p)
    by_turn true a h = refl
    by_turn false (Writes cs p) h = h _ p
    by_turn false (Jumps b p) h = refl
    by_turn false (Calls f cs p) h = refl
    by_turn false (Returns cs p) h = refl
    by_turn false (Stops e p) h = refl

-- ---- what is held

pub put_here : (d : ℕ) (c : Content) (s : Temps) → put holder_eq (Temp d) c s (Temp d) ≡ c
put_here d c s = ap (λ b. if b then c else s (Temp d)) (eq-eqb d d refl)

pub put_beside : (d : ℕ) (c : Content) (s : Temps) (h : Holder) → holder_eq h (Temp d) ≡ false →
    put holder_eq (Temp d) c s h ≡ s h
put_beside d c s h other = ap (λ b. if b then c else s h) other

pub without_plain : (x : TempInsn) → calls_function x ≡ false → (s : Temps) (h : Holder) → without (is_emptied x) s h ≡ s h
without_plain x plain s (Temp k) = refl
without_plain x plain s (Fixed k) = refl
without_plain x plain s (Incoming k) = refl
without_plain x plain s (Outgoing k) = ap (λ b. if b then unset_content else s (Outgoing k)) plain

-- ---- instructions that write one temporary

pub record WritesOne (x : TempInsn) (d : ℕ) : Type 0 where
  pub turn : takes_turn x ≡ false
  pub call : calls_function x ≡ false
  pub written : holders_written x ≡ Temp d ∷ []

pub step_writes : (widest : ℕ) (x : TempInsn) (xs : List TempInsn) (own : ℕ) (s : Temps) (o p : Outer) (d : ℕ) (c : Content) →
    WritesOne x d → does widest x own (map s (holders_read x)) o ≡ Writes (c ∷ []) p →
    runs widest (x ∷ xs) own s o ≡ runs widest xs own (put holder_eq (Temp d) c (without (is_emptied x) s)) p
step_writes widest x xs own s o p d c one act =
    ap (λ b. if b then NotStraight else goes_with x s (does widest x own (map s (holders_read x)) o) (λ t q. runs widest xs own t q)) one.turn
    ∙ ap (λ a. goes_with x s a (λ t q. runs widest xs own t q)) act
    ∙ ap (λ hs. runs widest xs own (put_all holder_eq hs (c ∷ []) (without (is_emptied x) s)) p) one.written

module _ (widest own : ℕ) (s : Temps) (o : Outer) (d : ℕ) where
  -- one instruction puts a content
  pub first_put : (x : TempInsn) (c : Content) → WritesOne x d → does widest x own (map s (holders_read x)) o ≡ Writes (c ∷ []) o →
      PutsContent widest (x ∷ []) own s o d c
  first_put x c one act = record {
    after = put holder_eq (Temp d) c (without (is_emptied x) s);
    ran = step_writes widest x [] own s o o d c one act;
    holds = put_here d c (without (is_emptied x) s);
    kept = λ h other. put_beside d c (without (is_emptied x) s) h other ∙ without_plain x one.call s h;
  }

  -- an instruction more, which may read what was put
  pub then_put : (xs : List TempInsn) (c : Content) (x : TempInsn) (e : Content) → (h : PutsContent widest xs own s o d c) → WritesOne x d →
      does widest x own (map h.after (holders_read x)) o ≡ Writes (e ∷ []) o → PutsContent widest (xs ++ x ∷ []) own s o d e
  then_put xs c x e h one act = record {
    after = put holder_eq (Temp d) e (without (is_emptied x) h.after);
    ran = runs-append widest xs (x ∷ []) own s o ∙ ap (λ r. on_after r (λ t p. runs widest (x ∷ []) own t p)) h.ran
        ∙ step_writes widest x [] own h.after o o d e one act;
    holds = put_here d e (without (is_emptied x) h.after);
    kept = λ k other. put_beside d e (without (is_emptied x) h.after) k other ∙ without_plain x one.call h.after k ∙ h.kept k other;
  }
