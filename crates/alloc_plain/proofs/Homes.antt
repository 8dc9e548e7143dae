-- The places of temporaries are those of what is held.
use Rattle.std.proofs.Common.{◌≡◌, ◌⊎◌, ℕ, ◌==◌, ◌&&◌, Bool, true, false, Option, Some, None, if◌then◌else◌, refl, sym, ap, ◌∙◌, subst, ⊎_elim, inl, inr}
use Rattle.std.specs.Prelude.{not}
use Rattle.std.proofs.lemmas.Bool.{eqb-true, eq-eqb}
use Rattle.std.proofs.Math.Path.{fun_ext}
use Rattle.alloc_model.specs.Places.{Reg, Slot, place_eq}
use Rattle.alloc_rules.specs.Visits.{comes_to, register_in_place}
use Rattle.alloc_plain.specs.declared.holders.HeldTemporaries.{HeldTemporaries}
use Rattle.alloc_plain.specs.model.Held.{is_in, register_by, place_in, home_in, without_temp, holder_behind, comes}
use Rattle.alloc_plain_lists.proofs.Sets.{test_or_not}

-- no temporary has two registers
pub record AtMostOne (a b c : Bool) : Type 0 where
  pub first : a ≡ true → (b ≡ false) × (c ≡ false)
  pub second : b ≡ true → c ≡ false

pub register_place : (o : Option ℕ) (t : ℕ) → register_in_place (place_in o t) ≡ o
register_place None t = refl
register_place (Some r) t = refl

same_turned : (t u : ℕ) → (t == u) ≡ true → (u == t) ≡ true
same_turned t u e = eq-eqb u t (sym (eqb-true t u e))

turned : (t u : ℕ) → (t == u) ≡ (u == t)
turned t u = ⊎_elim (λ (e : (t == u) ≡ true). e ∙ sym (same_turned t u e))
    (λ (n : (t == u) ≡ false). ⊎_elim (λ (e : (u == t) ≡ true). absurd (let b = same_turned u t e in cc)) (λ (m : (u == t) ≡ false). n ∙ sym m) (test_or_not (u == t)))
    (test_or_not (t == u))

-- what a register has behind it
without_same : (u t : ℕ) (o : Option ℕ) → (u == t) ≡ true → is_in (without_temp u o) t ≡ false
without_same u t None e = refl
without_same u t (Some w) e = ⊎_elim
    (λ (is : (w == u) ≡ true). ap (λ b. is_in (if b then None else Some w) t) is)
    (λ (no : (w == u) ≡ false). ap (λ b. is_in (if b then None else Some w) t) no ∙ ap (λ v. w == v) (sym (eqb-true u t e)) ∙ no)
    (test_or_not (w == u))

without_other : (u t : ℕ) (o : Option ℕ) → (u == t) ≡ false → is_in (without_temp u o) t ≡ is_in o t
without_other u t None n = refl
without_other u t (Some w) n = ⊎_elim
    (λ (is : (w == u) ≡ true). ap (λ b. is_in (if b then None else Some w) t) is ∙ sym (ap (λ v. v == t) (eqb-true w u is) ∙ n))
    (λ (no : (w == u) ≡ false). ap (λ b. is_in (if b then None else Some w) t) no)
    (test_or_not (w == u))

pub behind_same : (here : Bool) (u t : ℕ) (o : Option ℕ) → (u == t) ≡ true → is_in (holder_behind here u o) t ≡ here
behind_same true u t o e = e
behind_same false u t o e = without_same u t o e

pub behind_other : (here : Bool) (u t : ℕ) (o : Option ℕ) → (u == t) ≡ false → is_in (holder_behind here u o) t ≡ (not here && is_in o t)
behind_other true u t o n = n
behind_other false u t o n = without_other u t o n

-- ---- a temporary comes to a register

abbrev pub IsLow : ℕ → Type 0
IsLow r = (r ≡ 1) ⊎ (r ≡ 2) ⊎ (r ≡ 3)

stands : (r t : ℕ) → IsLow r → place_in (register_by (r == 1) (r == 2) (r == 3)) t ≡ Reg r
stands r t (inl e) = ap (λ r. place_in (register_by (r == 1) (r == 2) (r == 3)) t) e ∙ ap Reg (sym e)
stands r t (inr (inl e)) = ap (λ r. place_in (register_by (r == 1) (r == 2) (r == 3)) t) e ∙ ap Reg (sym e)
stands r t (inr (inr e)) = ap (λ r. place_in (register_by (r == 1) (r == 2) (r == 3)) t) e ∙ ap Reg (sym e)

abbrev Leaves : (r t : ℕ) → (a b c : Bool) → Type 0
Leaves r t a b c = (if place_eq (place_in (register_by a b c) t) (Reg r) then Slot t else place_in (register_by a b c) t)
    ≡ place_in (register_by (not (r == 1) && a) (not (r == 2) && b) (not (r == 3) && c)) t

leaves_first : (t : ℕ) (a b c : Bool) → AtMostOne a b c → Leaves 1 t a b c
leaves_first t true true c one = absurd (let two = (one.first refl).0 in cc)
leaves_first t true false true one = absurd (let two = (one.first refl).1 in cc)
leaves_first t true false false one = refl
leaves_first t false true c one = refl
leaves_first t false false true one = refl
leaves_first t false false false one = refl

leaves_second : (t : ℕ) (a b c : Bool) → AtMostOne a b c → Leaves 2 t a b c
leaves_second t true b c one = refl
leaves_second t false true true one = absurd (let two = one.second refl in cc)
leaves_second t false true false one = refl
leaves_second t false false true one = refl
leaves_second t false false false one = refl

leaves_third : (t : ℕ) (a b c : Bool) → Leaves 3 t a b c
leaves_third t true b c = refl
leaves_third t false true c = refl
leaves_third t false false true = refl
leaves_third t false false false = refl

leaves : (r t : ℕ) (a b c : Bool) → IsLow r → AtMostOne a b c → Leaves r t a b c
leaves r t a b c (inl e) one = subst (λ r. Leaves r t a b c) (sym e) (leaves_first t a b c one)
leaves r t a b c (inr (inl e)) one = subst (λ r. Leaves r t a b c) (sym e) (leaves_second t a b c one)
leaves r t a b c (inr (inr e)) one = subst (λ r. Leaves r t a b c) (sym e) (leaves_third t a b c)

abbrev pub IsOnce : HeldTemporaries → Type 0
IsOnce h = (t : ℕ) → AtMostOne (is_in h.first t) (is_in h.second t) (is_in h.third t)

by_parts : (t : ℕ) (a b c a' b' c' : Bool) → a ≡ a' → b ≡ b' → c ≡ c' → place_in (register_by a b c) t ≡ place_in (register_by a' b' c') t
by_parts t a b c a' b' c' p q r = ap (λ a. place_in (register_by a b c) t) p ∙ ap (λ b. place_in (register_by a' b c) t) q ∙ ap (λ c. place_in (register_by a' b' c) t) r

comes_at : (r u : ℕ) (h : HeldTemporaries) (t : ℕ) → IsLow r → IsOnce h → comes_to r u (home_in h) t ≡ home_in (comes r u h) t
comes_at r u h t low once = ⊎_elim
    (λ (e : (u == t) ≡ true).
    ap (λ b. if b then Reg r else (if place_eq (home_in h t) (Reg r) then Slot t else home_in h t)) (turned t u ∙ e)
    ∙ sym (by_parts t _ _ _ (r == 1) (r == 2) (r == 3) (behind_same (r == 1) u t h.first e) (behind_same (r == 2) u t h.second e) (behind_same (r == 3) u t h.third e) ∙ stands r t low))
    (λ (n : (u == t) ≡ false).
    ap (λ b. if b then Reg r else (if place_eq (home_in h t) (Reg r) then Slot t else home_in h t)) (turned t u ∙ n)
    ∙ leaves r t (is_in h.first t) (is_in h.second t) (is_in h.third t) low (once t)
    ∙ sym (by_parts t _ _ _ _ _ _ (behind_other (r == 1) u t h.first n) (behind_other (r == 2) u t h.second n) (behind_other (r == 3) u t h.third n)))
    (test_or_not (u == t))

pub comes_home : (r u : ℕ) (h : HeldTemporaries) → IsLow r → IsOnce h → comes_to r u (home_in h) ≡ home_in (comes r u h)
comes_home r u h low once = fun_ext (λ t. comes_at r u h t low once)

-- ---- no temporary comes to two registers

one_here : (r : ℕ) → IsLow r → AtMostOne (r == 1) (r == 2) (r == 3)
one_here r (inl e) = subst (λ r. AtMostOne (r == 1) (r == 2) (r == 3)) (sym e) (record { first = λ is. (refl, refl); second = λ is. absurd (cc) })
one_here r (inr (inl e)) = subst (λ r. AtMostOne (r == 1) (r == 2) (r == 3)) (sym e) (record { first = λ is. absurd (cc); second = λ is. refl })
one_here r (inr (inr e)) = subst (λ r. AtMostOne (r == 1) (r == 2) (r == 3)) (sym e) (record { first = λ is. absurd (cc); second = λ is. absurd (cc) })

fewer : (p q r a b c : Bool) → AtMostOne a b c → AtMostOne (p && a) (q && b) (r && c)
fewer p q r a b c one = record { first = λ is. (none q b (one.first (held p a is)).0, none r c (one.first (held p a is)).1); second = λ is. none r c (one.second (held q b is)) }
  where
    held : (p a : Bool) → (p && a) ≡ true → a ≡ true
    held true a is = is
    held false a is = absurd (cc)

    none : (q b : Bool) → b ≡ false → (q && b) ≡ false
    none true b is = is
    none false b is = refl

same_once : (a b c a' b' c' : Bool) → a ≡ a' → b ≡ b' → c ≡ c' → AtMostOne a' b' c' → AtMostOne a b c
same_once a b c a' b' c' p q r one = subst (λ a. AtMostOne a b c) (sym p) (subst (λ b. AtMostOne a' b c) (sym q) (subst (λ c. AtMostOne a' b' c) (sym r) one))

pub comes_once : (r u : ℕ) (h : HeldTemporaries) → IsLow r → IsOnce h → IsOnce (comes r u h)
comes_once r u h low once t = ⊎_elim
    (λ (e : (u == t) ≡ true). same_once _ _ _ (r == 1) (r == 2) (r == 3) (behind_same (r == 1) u t h.first e) (behind_same (r == 2) u t h.second e) (behind_same (r == 3) u t h.third e) (one_here r low))
    (λ (n : (u == t) ≡ false). same_once _ _ _ _ _ _ (behind_other (r == 1) u t h.first n) (behind_other (r == 2) u t h.second n) (behind_other (r == 3) u t h.third n)
    (fewer (not (r == 1)) (not (r == 2)) (not (r == 3)) _ _ _ (once t)))
    (test_or_not (u == t))
