-- What stands in registers of which one changes.
use Rattle.std.proofs.Common.{◌≡◌, ◌≢◌, ◌⊎◌, ℕ, zero, suc, ◌<◌, ◌≤◌, nat_lt, [], ◌∷◌, Bool, true, false, Option, Some, None, refl, sym, ap, ◌∙◌, inl, inr, subst, ⊎_elim, length, arith}
use Rattle.std.specs.Prelude.{slice_set}
use Rattle.std.proofs.lemmas.Bool.{eqb-true, eq-eqb, ltb-true, ltb-false}
use Rattle.std.proofs.lemmas.List.{get_or-set_same, get_or-set_other, length-set}
use Rattle.binpack_blocks.specs.declared.held.Held.{Held}
use Rattle.binpack_blocks.specs.declared.held.SlotCopy.{SlotCopy}
use Rattle.binpack_blocks.specs.model.Bins.{Bins, held_in, has_temp, held, IsNowhere, IsOnce, AreInside, lives}

pub same_or_not : (a b : ℕ) → (a ≡ b) ⊎ (a ≢ b)
same_or_not zero zero = inl refl
same_or_not zero (suc b) = inr (λ e. omega (arith, e))
same_or_not (suc a) zero = inr (λ e. omega (arith, e))
same_or_not (suc a) (suc b) = ⊎_elim (λ e. inl (ap suc e)) (λ ne. inr (λ e. ne (omega (arith, e)))) (same_or_not a b)

pub test_or_not : (b : Bool) → (b ≡ true) ⊎ (b ≡ false)
test_or_not true = inl refl
test_or_not false = inr refl

pub not_both : {A : Type 0} (b : Bool) → b ≡ true → b ≡ false → A
not_both true e f = absurd (cc)
not_both false e f = absurd (cc)

-- ---- one of them changes

pub set_same : (bins : Bins) (r : ℕ) (o : Option Held) → r < length bins → held_in (slice_set bins r o) r ≡ o
set_same bins r o within = get_or-set_same bins r o None within

pub set_other : (bins : Bins) (r q : ℕ) (o : Option Held) → q ≢ r → held_in (slice_set bins r o) q ≡ held_in bins q
set_other bins r q o ne = get_or-set_other bins r q o None ne

pub set_length : (bins : Bins) (r : ℕ) (o : Option Held) → length (slice_set bins r o) ≡ length bins
set_length bins r o = length-set bins r o

-- a register that has something is one of them
pub held_within : (bins : Bins) (r : ℕ) (h : Held) → held_in bins r ≡ Some h → r < length bins
held_within [] r h e = absurd (cc)
held_within (o ∷ bins) zero h e = omega arith
held_within (o ∷ bins) (suc r) h e = let rest = held_within bins r h e in omega (arith, rest)

-- ---- which temporary a register has

pub temp_there : (h : Held) → has_temp (Some h) h.temp ≡ true
temp_there h = eq-eqb h.temp h.temp refl

pub temp_is : (h : Held) (t : ℕ) → has_temp (Some h) t ≡ true → h.temp ≡ t
temp_is h t e = eqb-true h.temp t e

pub temp_held : (o : Option Held) (h : Held) → o ≡ Some h → has_temp o h.temp ≡ true
temp_held o h e = ap (λ p. has_temp p h.temp) e ∙ temp_there h

-- what has a temporary has something
pub held_of : (o : Option Held) (t : ℕ) → has_temp o t ≡ true → (h : Held) × (o ≡ Some h) × (h.temp ≡ t)
held_of None t e = absurd (cc)
held_of (Some h) t e = (h, refl, temp_is h t e)

pub other_temp : (bins : Bins) (t : ℕ) (h : Held) (r : ℕ) → IsNowhere bins t → held_in bins r ≡ Some h → h.temp ≢ t
other_temp bins t h r none e same = not_both (has_temp (held_in bins r) t) (ap (λ o. has_temp o t) e ∙ eq-eqb h.temp t same) (none r)

-- ---- something comes to a register

-- what a register has behind that
pub came : (bins : Bins) (r q : ℕ) (h : Held) (t : ℕ) → r < length bins → has_temp (held_in (slice_set bins r (Some h)) q) t ≡ true → ((q ≡ r) × (h.temp ≡ t)) ⊎ ((q ≢ r) × (has_temp (held_in bins q) t ≡ true))
came bins r q h t within is = ⊎_elim
    (λ (e : q ≡ r). inl (e, temp_is h t (ap (λ o. has_temp o t) (sym (ap (held_in (slice_set bins r (Some h))) e ∙ set_same bins r (Some h) within)) ∙ is)))
    (λ (ne : q ≢ r). inr (ne, ap (λ o. has_temp o t) (sym (set_other bins r q (Some h) ne)) ∙ is))
    (same_or_not q r)

-- what it has is what came, or was there before
pub came_held : (bins : Bins) (r q : ℕ) (h k : Held) → r < length bins → held_in (slice_set bins r (Some h)) q ≡ Some k → ((q ≡ r) × (k ≡ h)) ⊎ ((q ≢ r) × (held_in bins q ≡ Some k))
came_held bins r q h k within is = ⊎_elim
    (λ (e : q ≡ r). inl (e, one (sym is ∙ ap (held_in (slice_set bins r (Some h))) e ∙ set_same bins r (Some h) within)))
    (λ (ne : q ≢ r). inr (ne, sym (set_other bins r q (Some h) ne) ∙ is))
    (same_or_not q r)
  where
    one : {a b : Held} → Some a ≡ Some b → a ≡ b
    one e = cc

-- and where it was cleared
pub cleared_held : (bins : Bins) (r q : ℕ) (k : Held) → r < length bins → held_in (slice_set bins r None) q ≡ Some k → (q ≢ r) × (held_in bins q ≡ Some k)
cleared_held bins r q k within is = ⊎_elim
    (λ (e : q ≡ r). absurd (let none : held_in (slice_set bins r None) q ≡ None = ap (held_in (slice_set bins r None)) e ∙ set_same bins r None within in cc))
    (λ (ne : q ≢ r). (ne, sym (set_other bins r q None ne) ∙ is))
    (same_or_not q r)

pub cleared_temp : (bins : Bins) (r q t : ℕ) → r < length bins → has_temp (held_in (slice_set bins r None) q) t ≡ true → (q ≢ r) × (has_temp (held_in bins q) t ≡ true)
cleared_temp bins r q t within is =
    let h = held_of (held_in (slice_set bins r None) q) t is in
    let was = cleared_held bins r q h.0 within h.1 in
    (was.0, ap (λ o. has_temp o t) (was.1 ∙ sym h.1) ∙ is)

-- a temporary that stands nowhere behind that was nowhere, or in that register
pub nowhere_before : (bins : Bins) (r t : ℕ) (o : Option Held) → IsNowhere (slice_set bins r o) t → (q : ℕ) → q ≢ r → has_temp (held_in bins q) t ≡ false
nowhere_before bins r t o none q ne = ap (λ p. has_temp p t) (sym (set_other bins r q o ne)) ∙ none q

pub nowhere_or : (bins : Bins) (r t : ℕ) → ((q : ℕ) → q ≢ r → has_temp (held_in bins q) t ≡ false) → IsNowhere bins t ⊎ (has_temp (held_in bins r) t ≡ true)
nowhere_or bins r t others = ⊎_elim inr
    (λ (e : has_temp (held_in bins r) t ≡ false). inl (λ q. ⊎_elim
    (λ (same : q ≡ r). ap (λ p. has_temp (held_in bins p) t) same ∙ e)
    (λ (ne : q ≢ r). others q ne) (same_or_not q r)))
    (test_or_not (has_temp (held_in bins r) t))

pub not_where_it_came : (bins : Bins) (r t : ℕ) (h : Held) → r < length bins → IsNowhere (slice_set bins r (Some h)) t → h.temp ≢ t
not_where_it_came bins r t h within none e = not_both (has_temp (held_in (slice_set bins r (Some h)) r) t) (ap (λ o. has_temp o t) (set_same bins r (Some h) within) ∙ eq-eqb h.temp t e) (none r)

-- ---- what is kept

-- the same temporaries, of which one is left in its slot otherwise
pub marked_temp : (bins : Bins) (r : ℕ) (h : Held) (copy : SlotCopy) → held_in bins r ≡ Some h → (q t : ℕ) → has_temp (held_in (slice_set bins r (Some (held h.temp copy))) q) t ≡ has_temp (held_in bins q) t
marked_temp bins r h copy e q t = ⊎_elim
    (λ (same : q ≡ r). ap (λ p. has_temp (held_in (slice_set bins r (Some (held h.temp copy))) p) t) same ∙ ap (λ o. has_temp o t) (set_same bins r (Some (held h.temp copy)) (held_within bins r h e)) ∙ ap (λ o. has_temp o t) (sym e) ∙ ap (λ p. has_temp (held_in bins p) t) (sym same))
    (λ (ne : q ≢ r). ap (λ o. has_temp o t) (set_other bins r q (Some (held h.temp copy)) ne))
    (same_or_not q r)

pub once_marked : (bins : Bins) (r : ℕ) (h : Held) (copy : SlotCopy) → held_in bins r ≡ Some h → IsOnce bins → IsOnce (slice_set bins r (Some (held h.temp copy)))
once_marked bins r h copy e once t p q a b = once t p q (sym (marked_temp bins r h copy e p t) ∙ a) (sym (marked_temp bins r h copy e q t) ∙ b)

pub once_came : (bins : Bins) (r : ℕ) (h : Held) → r < length bins → ((q : ℕ) → has_temp (held_in bins q) h.temp ≡ true → q ≡ r) → IsOnce bins → IsOnce (slice_set bins r (Some h))
once_came bins r h within alone once t p q a b = ⊎_elim
    (λ (x : (p ≡ r) × (h.temp ≡ t)). ⊎_elim
    (λ (y : (q ≡ r) × (h.temp ≡ t)). x.0 ∙ sym y.0)
    (λ (y : (q ≢ r) × (has_temp (held_in bins q) t ≡ true)). absurd (y.0 (alone q (ap (has_temp (held_in bins q)) x.1 ∙ y.1))))
    (came bins r q h t within b))
    (λ (x : (p ≢ r) × (has_temp (held_in bins p) t ≡ true)). ⊎_elim
    (λ (y : (q ≡ r) × (h.temp ≡ t)). absurd (x.0 (alone p (ap (has_temp (held_in bins p)) y.1 ∙ x.1))))
    (λ (y : (q ≢ r) × (has_temp (held_in bins q) t ≡ true)). once t p q x.1 y.1)
    (came bins r q h t within b))
    (came bins r p h t within a)

pub once_cleared : (bins : Bins) (r : ℕ) → r < length bins → IsOnce bins → IsOnce (slice_set bins r None)
once_cleared bins r within once t p q a b = once t p q (cleared_temp bins r p t within a).1 (cleared_temp bins r q t within b).1

pub inside_came : (temps : ℕ) (bins : Bins) (r : ℕ) (h : Held) → r < length bins → h.temp < temps → AreInside temps bins → AreInside temps (slice_set bins r (Some h))
inside_came temps bins r h within low inside q t a = ⊎_elim
    (λ (x : (q ≡ r) × (h.temp ≡ t)). subst (λ v. v < temps) x.1 low)
    (λ (x : (q ≢ r) × (has_temp (held_in bins q) t ≡ true)). inside q t x.1)
    (came bins r q h t within a)

pub inside_cleared : (temps : ℕ) (bins : Bins) (r : ℕ) → r < length bins → AreInside temps bins → AreInside temps (slice_set bins r None)
inside_cleared temps bins r within inside q t a = inside q t (cleared_temp bins r q t within a).1

-- ---- what the invariants say of one register

pub inside_held : (temps : ℕ) (bins : Bins) (r : ℕ) (h : Held) → AreInside temps bins → Some h ≡ held_in bins r → h.temp < temps
inside_held temps bins r h inside e = inside r h.temp (temp_held (held_in bins r) h (sym e))

pub only_held : (bins : Bins) (r : ℕ) (h : Held) → IsOnce bins → Some h ≡ held_in bins r → (q : ℕ) → has_temp (held_in bins q) h.temp ≡ true → q ≡ r
only_held bins r h once e q is = once h.temp q r is (temp_held (held_in bins r) h (sym e))

pub past_none : (bins : Bins) (r : ℕ) → length bins ≤ r → held_in bins r ≡ None
past_none [] r past = refl
past_none (o ∷ bins) zero past = absurd (omega (arith, past))
past_none (o ∷ bins) (suc r) past = past_none bins r (omega (arith, past))

pub nowhere_all : (bins : Bins) (t : ℕ) → length bins ≡ 26 → ((q : ℕ) → q < 26 → has_temp (held_in bins q) t ≡ false) → IsNowhere bins t
nowhere_all bins t many none r = by (nat_lt r 26) refl
  where
    by : (c : Bool) → nat_lt r 26 ≡ c → has_temp (held_in bins r) t ≡ false
    by true e = none r (ltb-true r 26 e)
    by false e = ap (λ o. has_temp o t) (past_none bins r (let past = ltb-false r 26 e in omega (arith, past, many)))

-- ---- what is the same where registers have the same temporaries

pub lives_same : (live : ℕ → Bool) (o p : Option Held) → ((t : ℕ) → has_temp o t ≡ has_temp p t) → lives live o ≡ lives live p
lives_same live None None same = refl
lives_same live None (Some k) same = absurd (not_both (has_temp (Some k) k.temp) (temp_there k) (sym (same k.temp)))
lives_same live (Some h) None same = absurd (not_both (has_temp (Some h) h.temp) (temp_there h) (same h.temp))
lives_same live (Some h) (Some k) same = ap live (sym (temp_is k h.temp (sym (same h.temp) ∙ temp_there h)))

pub clear_all : (bins : Bins) (r : ℕ) → length bins ≡ 26 → (r < 26 → held_in bins r ≡ None) → held_in bins r ≡ None
clear_all bins r many clear = by (nat_lt r 26) refl
  where
    by : (c : Bool) → nat_lt r 26 ≡ c → held_in bins r ≡ None
    by true e = clear (ltb-true r 26 e)
    by false e = past_none bins r (let past = ltb-false r 26 e in omega (arith, past, many))
