-- What a load, a shift and a write do to what stands in registers.
use Rattle.std.proofs.Common.{◌≡◌, ◌≢◌, ℕ, zero, suc, ◌+◌, ◌*◌, ◌<◌, ◌≤◌, ◌==◌, ◌&&◌, ◌||◌, List, [], ◌∷◌, Bool, true, false, Option, Some, None, refl, sym, ap, ◌∙◌, inr, subst, ⊎_elim, length, arith}
use Rattle.std.specs.Prelude.{All, not, slice_set, slice_get}
use Rattle.std.proofs.lemmas.Bool.{eq-eqb}
use Rattle.bk_bits.specs.Sets.{has}
use Rattle.temp_ir.specs.declared.insn.TempInsn.{TempInsn}
use Rattle.temp_ir.specs.Insns.{reads_of, writes_of}
use Rattle.temp_ir.specs.Fixed.{has_number, fixed_reads_of, ended_of}
use Rattle.alloc_rules.specs.Visits.{fixes, takes_away, names_temp}
use Rattle.alloc_model.specs.declared.allocation.Transfer.{Transfer}
use Rattle.alloc_rules.specs.declared.scan.Lifetimes.{Lifetimes}
use Rattle.binpack_blocks.specs.declared.held.Held.{Held}
use Rattle.binpack_blocks.specs.model.Bins.{Bins, held_in, has_temp, held, lives, must_store, Leaves, relied_behind}
use Rattle.binpack_blocks.specs.model.Choices.{is_open, Spares}
use Rattle.binpack_blocks.specs.model.Rows.{is_wanted}
use Rattle.binpack_blocks.specs.model.Steps.{State, MayGet, MayStore}
use Rattle.binpack_blocks.specs.model.Scanning.{local_site}
use Rattle.binpack_blocks.specs.model.Visits.{AreHeld}
use Rattle.binpack_blocks.proofs.Holders.{not_both, set_other, held_of}
use Rattle.binpack_blocks.proofs.Names.{few}
use Rattle.binpack_blocks.proofs.Tables.{WritesOne, writes_alone}

and_parts : (b c : Bool) → (b && c) ≡ true → (b ≡ true) × (c ≡ true)
and_parts true c e = (refl, e)
and_parts false c e = absurd (cc)

not_true : (b : Bool) → not b ≡ true → b ≡ false
not_true true e = absurd (cc)
not_true false e = refl

-- an open register may be had
pub open_may : (temps : ℕ) (l : Lifetimes) (number : ℕ) (x : TempInsn) (standing : List Bool) (r : ℕ) → r < 26 → is_open x standing r ≡ true → MayGet (local_site temps l number x standing) r
open_may temps l number x standing r low opens =
    let parts = and_parts (not (fixes x r)) (not (has standing r)) opens in
    record { given = low; unfixed = not_true (fixes x r) parts.0; unclaimed = not_true (has standing r) parts.1 }

pub open_unfixed : (x : TempInsn) (standing : List Bool) (r q : ℕ) → is_open x standing r ≡ true → fixes x q ≡ true → q ≢ r
open_unfixed x standing r q opens is e = not_both (fixes x q) is (ap (fixes x) e ∙ not_true (fixes x r) (and_parts (not (fixes x r)) (not (has standing r)) opens).0)

-- a register is free
pub free_open : (b c : Bool) → (b && not c) ≡ true → (b ≡ true) × (c ≡ false)
free_open b c e = let parts = and_parts b (not c) e in (parts.0, not_true c parts.1)

-- what is named and live stays where something comes to another register
pub kept_by : (x : TempInsn) (live : ℕ → Bool) (bins saved : Bins) (r : ℕ) (h : Held) (q m : ℕ) → Spares x live bins r →
    ((q t : ℕ) → has_temp (held_in saved q) t ≡ has_temp (held_in bins q) t) → names_temp x m ≡ true → live m ≡ true → has_temp (held_in bins q) m ≡ true →
    has_temp (held_in (slice_set saved r (Some h)) q) m ≡ true
kept_by x live bins saved r h q m spares same named lv is =
    ap (λ o. has_temp o m) (set_other saved r q (Some h) apart) ∙ same q m ∙ is
  where
    apart : q ≢ r
    apart e =
        let k = held_of (held_in bins r) m (ap (λ z. has_temp (held_in bins z) m) (sym e) ∙ is) in
        ⊎_elim
        (λ (dead : live k.0.temp ≡ false). not_both (live m) lv (ap live (sym k.2) ∙ dead))
        (λ (other : names_temp x k.0.temp ≡ false). not_both (names_temp x m) named (ap (names_temp x) (sym k.2) ∙ other))
        (spares k.0 k.1)

-- ---- what is read

read_named : (x : TempInsn) (t : ℕ) → has_number (reads_of x) t ≡ true → names_temp x t ≡ true
read_named x t e = ap (λ c. c || has_number (writes_of x) t) e

pub written_named : (x : TempInsn) (t : ℕ) → has_number (writes_of x) t ≡ true → names_temp x t ≡ true
written_named x t e = ap (λ c. has_number (reads_of x) t || c) e ∙ or_true (has_number (reads_of x) t)
  where
    or_true : (b : Bool) → (b || true) ≡ true
    or_true true = refl
    or_true false = refl

pub none_read : (x : TempInsn) → None ≡ slice_get (reads_of x) 0 → reads_of x ≡ []
none_read x e = go (reads_of x) e
  where
    go : (ts : List ℕ) → None ≡ slice_get ts 0 → ts ≡ []
    go [] e = refl
    go (t ∷ ts) e = absurd (cc)

pub one_read : (x : TempInsn) (a : ℕ) → Some a ≡ slice_get (reads_of x) 0 → None ≡ slice_get (reads_of x) 1 → reads_of x ≡ a ∷ []
one_read x a e f = go (reads_of x) e f
  where
    go : (ts : List ℕ) → Some a ≡ slice_get ts 0 → None ≡ slice_get ts 1 → ts ≡ a ∷ []
    go [] e f = absurd (cc)
    go (t ∷ []) e f = let same : a ≡ t = cc in ap (λ v. v ∷ []) (sym same)
    go (t ∷ u ∷ ts) e f = absurd (cc)

pub two_read : (x : TempInsn) (a b : ℕ) → Some a ≡ slice_get (reads_of x) 0 → Some b ≡ slice_get (reads_of x) 1 → reads_of x ≡ a ∷ b ∷ []
two_read x a b e f = go (reads_of x) (few x).0 e f
  where
    go : (ts : List ℕ) → length ts ≤ 2 → Some a ≡ slice_get ts 0 → Some b ≡ slice_get ts 1 → ts ≡ a ∷ b ∷ []
    go [] most e f = absurd (cc)
    go (t ∷ []) most e f = absurd (cc)
    go (t ∷ u ∷ []) most e f = let s : a ≡ t = cc in let w : b ≡ u = cc in ap (λ v. v ∷ u ∷ []) (sym s) ∙ ap (λ v. a ∷ v ∷ []) (sym w)
    go (t ∷ u ∷ v ∷ ts) most e f = absurd (omega (arith, most))

get_has : (xs : List ℕ) (k t : ℕ) → Some t ≡ slice_get xs k → has_number xs t ≡ true
get_has [] k t e = absurd (cc)
get_has (x ∷ xs) zero t e = let same : x ≡ t = cc in ap (λ c. c || has_number xs t) (eq-eqb x t same)
get_has (x ∷ xs) (suc k) t e = or_also (x == t) (get_has xs k t e)
  where
    or_also : (b : Bool) → has_number xs t ≡ true → (b || has_number xs t) ≡ true
    or_also true rest = refl
    or_also false rest = rest

pub is_read : (x : TempInsn) (k t : ℕ) → Some t ≡ slice_get (reads_of x) k → has_number (reads_of x) t ≡ true
is_read x k t e = get_has (reads_of x) k t e

pub read_is_named : (x : TempInsn) (k t : ℕ) → Some t ≡ slice_get (reads_of x) k → names_temp x t ≡ true
read_is_named x k t e = read_named x t (is_read x k t e)

pub is_below : (temps : ℕ) (xs : List ℕ) (k t : ℕ) → All (λ u. u < temps) xs → Some t ≡ slice_get xs k → t < temps
is_below temps [] k t all e = absurd (cc)
is_below temps (x ∷ xs) zero t all e = let same : x ≡ t = cc in subst (λ u. u < temps) same (all 0 x (omega arith))
is_below temps (x ∷ xs) (suc k) t all e = is_below temps xs k t (λ j d w. all (suc j) d (omega (arith, w))) e

pub none_held : (x : TempInsn) (bins : Bins) (regs : List ℕ) → None ≡ slice_get (reads_of x) 0 → regs ≡ [] → AreHeld (reads_of x) regs bins
none_held x bins regs e f = subst (λ ts. AreHeld ts regs bins) (sym (none_read x e)) (subst (λ rs. AreHeld [] rs bins) (sym f) tt)

pub one_held : (x : TempInsn) (bins : Bins) (regs : List ℕ) (a r : ℕ) → Some a ≡ slice_get (reads_of x) 0 → None ≡ slice_get (reads_of x) 1 → regs ≡ r ∷ [] →
    has_temp (held_in bins r) a ≡ true → AreHeld (reads_of x) regs bins
one_held x bins regs a r e f g is = subst (λ ts. AreHeld ts regs bins) (sym (one_read x a e f)) (subst (λ rs. AreHeld (a ∷ []) rs bins) (sym g) (is, tt))

pub two_held : (x : TempInsn) (bins : Bins) (regs : List ℕ) (a b r q : ℕ) → Some a ≡ slice_get (reads_of x) 0 → Some b ≡ slice_get (reads_of x) 1 → regs ≡ r ∷ q ∷ [] →
    has_temp (held_in bins r) a ≡ true → has_temp (held_in bins q) b ≡ true → AreHeld (reads_of x) regs bins
two_held x bins regs a b r q e f g is so = subst (λ ts. AreHeld ts regs bins) (sym (two_read x a b e f)) (subst (λ rs. AreHeld (a ∷ b ∷ []) rs bins) (sym g) (is, (so, tt)))

-- ---- what is taken away

pub takes_fixes : (x : TempInsn) (r : ℕ) → takes_away x r ≡ true → fixes x r ≡ true
takes_fixes x r e = ap (λ c. has_number (fixed_reads_of x) r || c) e ∙ or_true (has_number (fixed_reads_of x) r)
  where
    or_true : (b : Bool) → (b || true) ≡ true
    or_true true = refl
    or_true false = refl

-- what takes registers away writes no temporary
pub taken_unwritten : (x : TempInsn) (r t : ℕ) → takes_away x r ≡ true → has_number (writes_of x) t ≡ false
taken_unwritten x r t takes = ⊎_elim
    (λ (none : writes_of x ≡ []). ap (λ ws. has_number ws t) none)
    (λ (one : WritesOne x). not_both (takes_away x r) takes (ap (λ fs. has_number fs r || has_number (ended_of x) r) one.fixed ∙ ap (λ es. has_number es r) one.ended))
    (writes_alone x)

pub dead_saved : (o : Option Held) → must_store false o ≡ false
dead_saved None = refl
dead_saved (Some h) = refl

pub dead_relied : (o : Option Held) (relied : List Bool) → relied ≡ relied_behind false o relied
dead_relied None relied = refl
dead_relied (Some h) relied = refl

-- what does not live leaves as it is
pub leaves_dead : (live : ℕ → Bool) (o : Option Held) (old new : List Bool) → lives live o ≡ false → new ≡ old → Leaves live o old new
leaves_dead live o old new dead same = record {
  saved = ap (λ l. must_store l o) dead ∙ dead_saved o;
  relied = same ∙ dead_relied o old ∙ ap (λ l. relied_behind l o old) (sym dead);
}

-- what leaves for a write is live behind and not written
pub spared_store : (temps : ℕ) (l : Lifetimes) (number : ℕ) (x : TempInsn) (standing : List Bool) (bins : Bins) (r : ℕ) (h : Held) →
    Spares x (is_wanted l (2 * number + 1)) bins r → held_in bins r ≡ Some h → is_wanted l (2 * number + 1) h.temp ≡ true → MayStore (local_site temps l number x standing) h.temp
spared_store temps l number x standing bins r h spares e lv = ⊎_elim
    (λ (dead : is_wanted l (2 * number + 1) h.temp ≡ false). not_both (is_wanted l (2 * number + 1) h.temp) lv dead)
    (λ (unnamed : names_temp x h.temp ≡ false). inr (lv, second (has_number (reads_of x) h.temp) (has_number (writes_of x) h.temp) unnamed))
    (spares h e)
  where
    second : (b c : Bool) → (b || c) ≡ false → c ≡ false
    second true c e = absurd (cc)
    second false c e = e

-- ---- a whole visit

pub held_along : (ts rs : List ℕ) (bins others : Bins) → ((q m : ℕ) → has_temp (held_in others q) m ≡ has_temp (held_in bins q) m) → AreHeld ts rs bins → AreHeld ts rs others
held_along [] [] bins others same held = held
held_along [] (r ∷ rs) bins others same held = held
held_along (t ∷ ts) [] bins others same held = held
held_along (t ∷ ts) (r ∷ rs) bins others same held = (same r t ∙ held.0, held_along ts rs bins others same held.1)

pub none_written : (x : TempInsn) → None ≡ slice_get (writes_of x) 0 → writes_of x ≡ []
none_written x e = go (writes_of x) e
  where
    go : (ts : List ℕ) → None ≡ slice_get ts 0 → ts ≡ []
    go [] e = refl
    go (t ∷ ts) e = absurd (cc)

pub one_written : (x : TempInsn) (a : ℕ) → Some a ≡ slice_get (writes_of x) 0 → writes_of x ≡ a ∷ []
one_written x a e = go (writes_of x) (few x).1 e
  where
    go : (ts : List ℕ) → length ts ≤ 1 → Some a ≡ slice_get ts 0 → ts ≡ a ∷ []
    go [] most e = absurd (cc)
    go (t ∷ []) most e = let s : a ≡ t = cc in ap (λ v. v ∷ []) (sym s)
    go (t ∷ u ∷ ts) most e = absurd (omega (arith, most))

pub is_written : (x : TempInsn) (t : ℕ) → Some t ≡ slice_get (writes_of x) 0 → has_number (writes_of x) t ≡ true
is_written x t e = get_has (writes_of x) 0 t e

pub written_is_named : (x : TempInsn) (t : ℕ) → Some t ≡ slice_get (writes_of x) 0 → names_temp x t ≡ true
written_is_named x t e = written_named x t (is_written x t e)

-- nothing is taken away where something is written
pub writer_takes_nothing : (x : TempInsn) (t r : ℕ) → Some t ≡ slice_get (writes_of x) 0 → takes_away x r ≡ true → {A : Type 0} → A
writer_takes_nothing x t r e takes {A} = not_both (has_number (writes_of x) t) (is_written x t e) (taken_unwritten x r t takes)

abbrev pub state_with : Bins → List Transfer → List Bool → State
state_with bins made relied = record { bins = bins; made = made; relied = relied }
