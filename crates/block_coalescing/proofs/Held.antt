-- What is held by names, behind each kind of step.
use Rattle.std.proofs.Common.{◌≡◌, ◌≢◌, ℕ, ◌⊎◌, List, [], ◌∷◌, ◌++◌, Option, Some, None, Bool, true, false, if◌then◌else◌, refl, sym, ap, ◌∙◌, inl, inr, map, drop, subst}
use Rattle.std.specs.Prelude.{◌==◌, slice_get}
use Rattle.std.proofs.lemmas.Bool.{eqb-true, eq-eqb}
use Rattle.temp_ir.specs.declared.insn.TempInsn.{TempInsn}
use Rattle.temp_ir.specs.declared.insn.TempInsn.TheVariants as i
use Rattle.temp_ir.specs.Insns.{reads_of}
use Rattle.temp_ir.specs.Fixed.{fixed_reads_of, fixed_writes_of}
use Rattle.alloc_model.specs.Contents.{Content, unset_content}
use Rattle.alloc_model.specs.Stores.{first_or_unset, without, put, put_all}
use Rattle.alloc_model.specs.Effect.{Holder, Temp, Fixed, Incoming, Outgoing, holder_eq, argument_places, places_read, places_written, others_read, others_written, holders_read, holders_written, calls_function, is_emptied}
use Rattle.alloc_model.specs.Temporaries.{Temps}
use Rattle.block_coalescing.specs.Forms.{write_of}
use Rattle.block_coalescing.specs.Walks.{Names, WriteName, IsBehind, CopyName, IsCopied, IsLost, HaveTheseNames, IsHome, IsTop}
use Rattle.block_coalescing.proofs.Forms.{is_there, SameForm}
use Rattle.block_coalescing.proofs.Pure.{PureForm}

-- a register or an argument place
abbrev pub IsOther : Holder → Type 0
IsOther (Temp r) = ⊥
IsOther (Fixed k) = Unit {0}
IsOther (Incoming k) = Unit {0}
IsOther (Outgoing k) = Unit {0}

-- a named temporary holds what that of its name holds, and all else holds the same
pub record Holds (n : Names) (s t : Temps) : Type 0 where
  pub temps : (r q : ℕ) → n r ≡ Some q → s (Temp r) ≡ t (Temp q)
  pub others : (h : Holder) → IsOther h → s h ≡ t h

-- ---- what else an instruction reads and writes is no temporary

abbrev pub AllOthers : List Holder → Type 0
AllOthers [] = Unit {0}
AllOthers (h ∷ hs) = IsOther h × AllOthers hs

fixed_others : (ks : List ℕ) (hs : List Holder) → AllOthers hs → AllOthers (map Fixed ks ++ hs)
fixed_others [] hs a = a
fixed_others (k ∷ ks) hs a = (tt, fixed_others ks hs a)

outgoing_others : (ks : List ℕ) → AllOthers (map Outgoing ks)
outgoing_others [] = tt
outgoing_others (k ∷ ks) = (tt, outgoing_others ks)

places_read_others : (x : TempInsn) → AllOthers (places_read x)
places_read_others (i.Address op d base plus) = tt
places_read_others (i.ObjectAddress d place plus) = tt
places_read_others (i.Load op d pointer plus) = tt
places_read_others (i.Store op a pointer plus) = tt
places_read_others (i.Operate op d a b) = tt
places_read_others (i.Extend op d a) = tt
places_read_others (i.ToFixed register s) = tt
places_read_others (i.FromFixed d register) = tt
places_read_others (i.SetFixed register number) = tt
places_read_others (i.WriteArgument number s) = tt
places_read_others (i.ReadArgument d number) = (tt, tt)
places_read_others (i.Branch op s block) = tt
places_read_others (i.Jump block) = tt
places_read_others (i.Call function arguments) = outgoing_others (argument_places arguments)
places_read_others (i.Divide routine) = tt
places_read_others (i.Serve service) = tt
places_read_others (i.Return with_value) = tt
places_read_others i.Mark = tt

places_written_others : (x : TempInsn) → AllOthers (places_written x)
places_written_others (i.Address op d base plus) = tt
places_written_others (i.ObjectAddress d place plus) = tt
places_written_others (i.Load op d pointer plus) = tt
places_written_others (i.Store op a pointer plus) = tt
places_written_others (i.Operate op d a b) = tt
places_written_others (i.Extend op d a) = tt
places_written_others (i.ToFixed register s) = tt
places_written_others (i.FromFixed d register) = tt
places_written_others (i.SetFixed register number) = tt
places_written_others (i.WriteArgument number s) = (tt, tt)
places_written_others (i.ReadArgument d number) = tt
places_written_others (i.Branch op s block) = tt
places_written_others (i.Jump block) = tt
places_written_others (i.Call function arguments) = tt
places_written_others (i.Divide routine) = tt
places_written_others (i.Serve service) = tt
places_written_others (i.Return with_value) = tt
places_written_others i.Mark = tt

reads_others : (x : TempInsn) → AllOthers (others_read x)
reads_others x = fixed_others (fixed_reads_of x) (places_read x) (places_read_others x)

writes_others : (x : TempInsn) → AllOthers (others_written x)
writes_others x = fixed_others (fixed_writes_of x) (places_written x) (places_written_others x)

-- ---- reads

others_same : (n : Names) (s t : Temps) (hs : List Holder) → Holds n s t → AllOthers hs → map s hs ≡ map t hs
others_same n s t [] held a = refl
others_same n s t (h ∷ hs) held a = ap (λ c. c ∷ map s hs) (held.others h a.0) ∙ ap (λ cs. t h ∷ cs) (others_same n s t hs held a.1)

temps_same : (temps : ℕ) (n : Names) (s t : Temps) (rs qs : List ℕ) (hs : List Holder) → Holds n s t → AllOthers hs → HaveTheseNames temps n rs qs → map s (map Temp rs ++ hs) ≡ map t (map Temp qs ++ hs)
temps_same temps n s t [] [] hs held a are = others_same n s t hs held a
temps_same temps n s t [] (q ∷ qs) hs held a are = absurd are
temps_same temps n s t (r ∷ rs) [] hs held a are = absurd are
temps_same temps n s t (r ∷ rs) (q ∷ qs) hs held a are =
    ap (λ c. c ∷ map s (map Temp rs ++ hs)) (held.temps r q are.0) ∙ ap (λ cs. t (Temp q) ∷ cs) (temps_same temps n s t rs qs hs held a are.2)

pub reads_same : (temps : ℕ) (n : Names) (s t : Temps) (x y : TempInsn) → Holds n s t → SameForm x y → HaveTheseNames temps n (reads_of x) (reads_of y) → map s (holders_read x) ≡ map t (holders_read y)
reads_same temps n s t x y held same are =
    temps_same temps n s t (reads_of x) (reads_of y) (others_read x) held (reads_others x) are
    ∙ ap (λ hs. map t (map Temp (reads_of y) ++ hs)) same.others_in

-- ---- writes

put_same : (d : ℕ) (c : Content) (s : Temps) (r : ℕ) → r ≡ d → put holder_eq (Temp d) c s (Temp r) ≡ c
put_same d c s r e = go (r == d) (eq-eqb r d e)
  where
    go : (b : Bool) → b ≡ true → (if b then c else s (Temp r)) ≡ c
    go true f = refl
    go false f = absurd (cc)

put_apart : (d : ℕ) (c : Content) (s : Temps) (r : ℕ) → r ≢ d → put holder_eq (Temp d) c s (Temp r) ≡ s (Temp r)
put_apart d c s r n = go (r == d) refl
  where
    go : (b : Bool) → (r == d) ≡ b → (if b then c else s (Temp r)) ≡ s (Temp r)
    go true f = absurd (n (eqb-true r d f))
    go false f = refl

put_beside : (d : ℕ) (c : Content) (s : Temps) (h : Holder) → IsOther h → put holder_eq (Temp d) c s h ≡ s h
put_beside d c s (Temp r) o = absurd o
put_beside d c s (Fixed k) o = refl
put_beside d c s (Incoming k) o = refl
put_beside d c s (Outgoing k) o = refl

-- another place is written in both
put_other : (n : Names) (k : Holder) (c : Content) (s t : Temps) → IsOther k → Holds n s t → Holds n (put holder_eq k c s) (put holder_eq k c t)
put_other n k c s t o held = record {
  temps = λ r q is. past k o r s ∙ held.temps r q is ∙ sym (past k o q t);
  others = λ h other. ap (λ v. if holder_eq h k then c else v) (held.others h other);
}
  where
    past : (k : Holder) → IsOther k → (r : ℕ) (u : Temps) → put holder_eq k c u (Temp r) ≡ u (Temp r)
    past (Temp d) o r u = absurd o
    past (Fixed d) o r u = refl
    past (Incoming d) o r u = refl
    past (Outgoing d) o r u = refl

put_others : (n : Names) (hs : List Holder) (cs : List Content) (s t : Temps) → AllOthers hs → Holds n s t → Holds n (put_all holder_eq hs cs s) (put_all holder_eq hs cs t)
put_others n [] cs s t a held = held
put_others n (h ∷ hs) cs s t a held = put_others n hs (drop 1 cs) _ _ a.1 (put_other n h (first_or_unset cs) s t a.0 held)

write_one : (n : Names) (d e : ℕ) (c : Content) (s t : Temps) (r q : ℕ) → Holds n s t → WriteName n d e r q → put holder_eq (Temp d) c s (Temp r) ≡ put holder_eq (Temp e) c t (Temp q)
write_one n d e c s t r q held (inl p) = put_same d c s r p.0 ∙ sym (put_same e c t q p.1)
write_one n d e c s t r q held (inr p) = put_apart d c s r p.0 ∙ held.temps r q p.2 ∙ sym (put_apart e c t q p.1)

-- both write a temporary
put_both : (n m : Names) (d e : ℕ) (c : Content) (s t : Temps) → IsBehind (Some d) (Some e) n m → Holds n s t → Holds m (put holder_eq (Temp d) c s) (put holder_eq (Temp e) c t)
put_both n m d e c s t is held = record {
  temps = λ r q named. write_one n d e c s t r q held (is.each r q named);
  others = λ h o. put_beside d c s h o ∙ held.others h o ∙ sym (put_beside e c t h o);
}

-- the argument places of a call are emptied
emptied_both : (n : Names) (x y : TempInsn) (s t : Temps) → calls_function x ≡ calls_function y → Holds n s t → Holds n (without (is_emptied x) s) (without (is_emptied y) t)
emptied_both n x y s t e held = record { temps = λ r q is. held.temps r q is; others = λ h o. other h o }
  where
    other : (h : Holder) → IsOther h → without (is_emptied x) s h ≡ without (is_emptied y) t h
    other (Temp r) o = absurd o
    other (Fixed k) o = held.others (Fixed k) o
    other (Incoming k) o = held.others (Incoming k) o
    other (Outgoing k) o = ap (λ b. if b then unset_content else s (Outgoing k)) e ∙ ap (λ v. if calls_function y then unset_content else v) (held.others (Outgoing k) o)

-- the writes of a temporary, if there is one, are the first
abbrev temp_writes : Option ℕ → List Holder → List Holder
temp_writes None hs = hs
temp_writes (Some d) hs = Temp d ∷ hs

written_first : (x : TempInsn) → holders_written x ≡ temp_writes (write_of x) (others_written x)
written_first (i.Address op d base plus) = refl
written_first (i.ObjectAddress d place plus) = refl
written_first (i.Load op d pointer plus) = refl
written_first (i.Store op a pointer plus) = refl
written_first (i.Operate op d a b) = refl
written_first (i.Extend op d a) = refl
written_first (i.ToFixed register s) = refl
written_first (i.FromFixed d register) = refl
written_first (i.SetFixed register number) = refl
written_first (i.WriteArgument number s) = refl
written_first (i.ReadArgument d number) = refl
written_first (i.Branch op s block) = refl
written_first (i.Jump block) = refl
written_first (i.Call function arguments) = refl
written_first (i.Divide routine) = refl
written_first (i.Serve service) = refl
written_first (i.Return with_value) = refl
written_first i.Mark = refl

same_kept : (n m : Names) (s t : Temps) → ((r q : ℕ) → m r ≡ Some q → n r ≡ Some q) → Holds n s t → Holds m s t
same_kept n m s t is held = record { temps = λ r q named. held.temps r q (is r q named); others = held.others }

put_written : (n m : Names) (d e : Option ℕ) (hs : List Holder) (cs : List Content) (s t : Temps) → is_there d ≡ is_there e → AllOthers hs → IsBehind d e n m → Holds n s t → Holds m (put_all holder_eq (temp_writes d hs) cs s) (put_all holder_eq (temp_writes e hs) cs t)
put_written n m None None hs cs s t w a is held = put_others m hs cs s t a (same_kept n m s t is.each held)
put_written n m None (Some e) hs cs s t w a is held = absurd (cc)
put_written n m (Some d) None hs cs s t w a is held = absurd (cc)
put_written n m (Some d) (Some e) hs cs s t w a is held = put_others m hs (drop 1 cs) _ _ a (put_both n m d e (first_or_unset cs) s t is held)

-- what both do
pub writes_same : (n m : Names) (x y : TempInsn) (cs : List Content) (s t : Temps) → SameForm x y → IsBehind (write_of x) (write_of y) n m → Holds n s t → Holds m (put_all holder_eq (holders_written x) cs (without (is_emptied x) s)) (put_all holder_eq (holders_written y) cs (without (is_emptied y) t))
writes_same n m x y cs s t same is held =
    subst (λ hs. Holds m (put_all holder_eq hs cs (without (is_emptied x) s)) (put_all holder_eq (holders_written y) cs (without (is_emptied y) t))) (sym (written_first x))
    (subst (λ hs. Holds m (put_all holder_eq (temp_writes (write_of x) (others_written x)) cs (without (is_emptied x) s)) (put_all holder_eq hs cs (without (is_emptied y) t))) (sym (written_first y ∙ ap (temp_writes (write_of y)) (sym same.others_out)))
    (put_written n m (write_of x) (write_of y) (others_written x) cs (without (is_emptied x) s) (without (is_emptied y) t) same.wrote (writes_others x) is (emptied_both n x y s t same.empties held)))

-- ---- what the first version does alone

emptied_alone : (n : Names) (x : TempInsn) (s t : Temps) → calls_function x ≡ false → Holds n s t → Holds n (without (is_emptied x) s) t
emptied_alone n x s t e held = record { temps = λ r q is. held.temps r q is; others = λ h o. other h o }
  where
    other : (h : Holder) → IsOther h → without (is_emptied x) s h ≡ t h
    other (Temp r) o = absurd o
    other (Fixed k) o = held.others (Fixed k) o
    other (Incoming k) o = held.others (Incoming k) o
    other (Outgoing k) o = ap (λ b. if b then unset_content else s (Outgoing k)) e ∙ held.others (Outgoing k) o

-- d gets what the other one has in the temporary of its name, or has none
put_alone : (n m : Names) (d : ℕ) (c : Content) (s t : Temps) → ((r q : ℕ) → m r ≡ Some q → ((r ≡ d) × (c ≡ t (Temp q))) ⊎ ((r ≢ d) × (n r ≡ Some q))) → Holds n s t → Holds m (put holder_eq (Temp d) c s) t
put_alone n m d c s t is held = record {
  temps = λ r q named. one r q (is r q named);
  others = λ h o. put_beside d c s h o ∙ held.others h o;
}
  where
    one : (r q : ℕ) → ((r ≡ d) × (c ≡ t (Temp q))) ⊎ ((r ≢ d) × (n r ≡ Some q)) → put holder_eq (Temp d) c s (Temp r) ≡ t (Temp q)
    one r q (inl p) = put_same d c s r p.0 ∙ p.1
    one r q (inr p) = put_apart d c s r p.0 ∙ held.temps r q p.1

-- its only write is that of a temporary
written_alone : (x : TempInsn) → (form : PureForm x) → holders_written x ≡ Temp form.destination ∷ []
written_alone x form = ap (λ ws. map Temp ws ++ others_written x) form.writes_it ∙ ap (λ hs. Temp form.destination ∷ hs) form.others_out

alone_holds : (n m : Names) (x : TempInsn) (form : PureForm x) (cs : List Content) (s t : Temps) → ((r q : ℕ) → m r ≡ Some q → ((r ≡ form.destination) × (first_or_unset cs ≡ t (Temp q))) ⊎ ((r ≢ form.destination) × (n r ≡ Some q))) → Holds n s t → Holds m (put_all holder_eq (holders_written x) cs (without (is_emptied x) s)) t
alone_holds n m x form cs s t is held =
    subst (λ hs. Holds m (put_all holder_eq hs cs (without (is_emptied x) s)) t) (sym (written_alone x form))
    (put_alone n m form.destination (first_or_unset cs) (without (is_emptied x) s) t is (emptied_alone n x s t form.empties held))

lost_name : (n : Names) (d r q : ℕ) (c v : Content) → (Some d ≢ Some r) × (n r ≡ Some q) → ((r ≡ d) × (c ≡ v)) ⊎ ((r ≢ d) × (n r ≡ Some q))
lost_name n d r q c v p = inr (λ e. p.0 (ap (λ k. Some k) (sym e)), p.1)

-- a dead instruction
pub lost_holds : (n m : Names) (x : TempInsn) (form : PureForm x) (cs : List Content) (s t : Temps) → IsLost (write_of x) n m → Holds n s t → Holds m (put_all holder_eq (holders_written x) cs (without (is_emptied x) s)) t
lost_holds n m x form cs s t is held =
    alone_holds n m x form cs s t (λ r q named. lost_name n form.destination r q (first_or_unset cs) (t (Temp q)) ((subst (λ ws. IsLost (slice_get ws 0) n m) form.writes_it is).each r q named)) held

copied_name : (n : Names) (d f r q : ℕ) (c : Content) (s t : Temps) → Holds n s t → c ≡ s (Temp f) → CopyName n d f r q → ((r ≡ d) × (c ≡ t (Temp q))) ⊎ ((r ≢ d) × (n r ≡ Some q))
copied_name n d f r q c s t held e (inl p) = inl (p.0, e ∙ held.temps f q p.1)
copied_name n d f r q c s t held e (inr p) = inr p

-- a copy
pub copy_holds : (n m : Names) (x : TempInsn) (form : PureForm x) (f : ℕ) (cs : List Content) (s t : Temps) → first_or_unset cs ≡ s (Temp f) → IsCopied form.destination f n m → Holds n s t → Holds m (put_all holder_eq (holders_written x) cs (without (is_emptied x) s)) t
copy_holds n m x form f cs s t e is held =
    alone_holds n m x form cs s t (λ r q named. copied_name n form.destination f r q (first_or_unset cs) s t held e (is.each r q named)) held

-- ---- tops and bottoms

-- what is live is held alike, and all that is no temporary
pub record Agree (live : ℕ → Bool) (s t : Temps) : Type 0 where
  pub temps : (r : ℕ) → live r ≡ true → s (Temp r) ≡ t (Temp r)
  pub others : (h : Holder) → IsOther h → s h ≡ t h

pub top_holds : (n : Names) (top : ℕ → Bool) (s t : Temps) → IsTop top n → Agree top s t → Holds n s t
top_holds n top s t is agree = record {
  temps = λ r q named. agree.temps r (is.each r q named).1 ∙ ap (λ k. t (Temp k)) (sym (is.each r q named).0);
  others = agree.others;
}

pub home_agrees : (n : Names) (live : ℕ → Bool) (s t : Temps) → IsHome live n → Holds n s t → Agree live s t
home_agrees n live s t is held = record { temps = λ r alive. held.temps r r (is r alive); others = held.others }

pub same_agrees : (live : ℕ → Bool) (s : Temps) → Agree live s s
same_agrees live s = record { temps = λ r alive. refl; others = λ h o. refl }
