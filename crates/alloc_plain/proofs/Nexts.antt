-- The lowest temporary that is held: those below it leave no register.
use Rattle.std.proofs.Common.{◌≡◌, ℕ, zero, suc, ◌+◌, ◌-◌, ◌*◌, ◌<◌, ◌≤◌, ◌==◌, List, [], ◌++◌, true, false, Option, Some, None, if◌then◌else◌, refl, sym, ap, ◌∙◌, subst, ⊎_elim, length, append_assoc, append-nil, arith}
use Rattle.std.specs.Prelude.{nat_le, flat_map, slice_index_or}
use Rattle.std.specs.List.{range_with_len}
use Rattle.std.proofs.lemmas.Bool.{cases_lt, lt-ltb, le-ltb, eqb-true, eq-eqb}
use Rattle.std.proofs.lemmas.Option.{none-some, same_Some}
use Rattle.alloc_model.specs.declared.allocation.Event.{Event}
use Rattle.alloc_rules.specs.Journal.{eviction}
use Rattle.alloc_plain_lists.proofs.Sets.{test_or_not}
use Rattle.alloc_plain.specs.declared.holders.HeldTemporaries.{HeldTemporaries}
use Rattle.alloc_plain.specs.model.Held.{is_in, register_by, register_in, Holds}
use Rattle.alloc_plain.specs.model.Next.{lower, sooner, soonest, next_held}
use Rattle.alloc_plain.specs.model.Visits.{leaving_at, all_leaving}

-- a number is below what was found, if anything was
pub record IsPast (o : Option ℕ) (j : ℕ) : Type 0 where
  pub past : (t : ℕ) → o ≡ Some t → j < t

-- what was found is of a kind
pub record IsFound (P : ℕ → Type 0) (o : Option ℕ) : Type 0 where
  pub found : (t : ℕ) → o ≡ Some t → P t

other_number : (t j : ℕ) → (t ≡ j → ⊥) → (t == j) ≡ false
other_number t j apart = ⊎_elim (λ (e : (t == j) ≡ true). absurd (apart (eqb-true t j e))) (λ no. no) (test_or_not (t == j))

past_lower : (best : Option ℕ) (t j : ℕ) → IsPast (lower best t) j → (j < t) × IsPast best j
past_lower None t j p = (p.past t refl, record { past = λ u e. absurd (none-some u e) })
past_lower (Some u) t j p = ⊎_elim
    (λ (below : t < u).
    let low = p.past t (ap (λ b. if b then Some t else Some u) (lt-ltb t u below)) in
    (low, record { past = λ v e. let same = same_Some u v e in omega (arith, low, below, same) }))
    (λ (above : u ≤ t).
    let low = p.past u (ap (λ b. if b then Some t else Some u) (le-ltb t u above)) in
    (omega (arith, low, above), record { past = λ v e. let same = same_Some u v e in omega (arith, low, same) }))
    (cases_lt t u)

past_sooner : (from : ℕ) (best holder : Option ℕ) (j : ℕ) → from ≤ j → IsPast (sooner from best holder) j → (is_in holder j ≡ false) × IsPast best j
past_sooner from best None j high p = (refl, p)
past_sooner from best (Some t) j high p = ⊎_elim
    (λ (below : t < from).
    (other_number t j (λ e. omega (arith, below, high, e)), subst (λ b. IsPast (if b then best else lower best t) j) (lt-ltb t from below) p))
    (λ (above : from ≤ t).
    let both = past_lower best t j (subst (λ b. IsPast (if b then best else lower best t) j) (le-ltb t from above) p) in
    (let low = both.0 in other_number t j (λ e. omega (arith, low, e)), both.1))
    (cases_lt t from)

past_soonest : (from : ℕ) (best : Option ℕ) (h : HeldTemporaries) (j : ℕ) → from ≤ j → IsPast (soonest from best h) j → (register_in h j ≡ None) × IsPast best j
past_soonest from best h j high p =
    let third = past_sooner from (sooner from (sooner from best h.first) h.second) h.third j high p in
    let second = past_sooner from (sooner from best h.first) h.second j high third.1 in
    let first = past_sooner from best h.first j high second.1 in
    (ap (λ a. register_by a (is_in h.second j) (is_in h.third j)) first.0 ∙ ap (λ b. register_by false b (is_in h.third j)) second.0 ∙ ap (λ c. register_by false false c) third.0, first.1)

past_next : (from : ℕ) (before behind : HeldTemporaries) (j : ℕ) → from ≤ j → IsPast (next_held from before behind) j → (register_in before j ≡ None) × (register_in behind j ≡ None)
past_next from before behind j high p =
    let behind_none = past_soonest from (soonest from None before) behind j high p in
    let before_none = past_soonest from None before j high behind_none.1 in
    (before_none.0, behind_none.0)

-- ---- what is found is held

abbrev Above : (from : ℕ) → (Q : ℕ → Type 0) → ℕ → Type 0
Above from Q t = (from ≤ t) × Q t

found_lower : (P : ℕ → Type 0) (best : Option ℕ) (t : ℕ) → P t → IsFound P best → IsFound P (lower best t)
found_lower P None t p f = record { found = λ u e. subst P (same_Some t u e) p }
found_lower P (Some u) t p f = ⊎_elim
    (λ (below : t < u). subst (λ b. IsFound P (if b then Some t else Some u)) (sym (lt-ltb t u below)) (record { found = λ v e. subst P (same_Some t v e) p }))
    (λ (above : u ≤ t). subst (λ b. IsFound P (if b then Some t else Some u)) (sym (le-ltb t u above)) f)
    (cases_lt t u)

found_sooner : (Q : ℕ → Type 0) (from : ℕ) (best holder : Option ℕ) → IsFound (Above from Q) best → ((t : ℕ) → is_in holder t ≡ true → Q t) → IsFound (Above from Q) (sooner from best holder)
found_sooner Q from best None f all = f
found_sooner Q from best (Some t) f all = ⊎_elim
    (λ (below : t < from). subst (λ b. IsFound (Above from Q) (if b then best else lower best t)) (sym (lt-ltb t from below)) f)
    (λ (above : from ≤ t). subst (λ b. IsFound (Above from Q) (if b then best else lower best t)) (sym (le-ltb t from above))
    (found_lower (Above from Q) best t (above, all t (same_number t)) f))
    (cases_lt t from)
  where
    same_number : (t : ℕ) → (t == t) ≡ true
    same_number t = eq-eqb t t refl

found_soonest : (Q : ℕ → Type 0) (from : ℕ) (best : Option ℕ) (h : HeldTemporaries) → Holds Q h → IsFound (Above from Q) best → IsFound (Above from Q) (soonest from best h)
found_soonest Q from best h holds f =
    found_sooner Q from (sooner from (sooner from best h.first) h.second) h.third
    (found_sooner Q from (sooner from best h.first) h.second (found_sooner Q from best h.first f holds.first) holds.second) holds.third

pub found_next : (Q : ℕ → Type 0) (from : ℕ) (before behind : HeldTemporaries) (t : ℕ) → Holds Q before → Holds Q behind → next_held from before behind ≡ Some t → (from ≤ t) × Q t
found_next Q from before behind t first second is =
    let f = found_soonest Q from (soonest from None before) behind second
    (found_soonest Q from None before first (record { found = λ u e. absurd (none-some u e) })) in
    f.found t is

-- ---- the events of those between

quiet : (ends : List ℕ) (number : ℕ) (before left behind : HeldTemporaries) (j : ℕ) → register_in before j ≡ None → register_in left j ≡ None → leaving_at ends number before left behind j ≡ []
quiet ends number before left behind j silent none =
    ap (λ o. eviction (nat_le (2 * number) (slice_index_or ends j 0)) o (register_in left j) j ++ eviction (nat_le (2 * number + 1) (slice_index_or ends j 0)) (register_in left j) (register_in behind j) j) silent
    ∙ ap (λ o. eviction (nat_le (2 * number + 1) (slice_index_or ends j 0)) o (register_in behind j) j) none

none_between : (F : ℕ → List Event) (a n : ℕ) → ((j : ℕ) → a ≤ j → j < a + n → F j ≡ []) → flat_map F (range_with_len a n) ≡ []
none_between F a zero silent = refl
none_between F a (suc n) silent =
    ap (λ es. es ++ flat_map F (range_with_len (a + 1) n)) (silent a (omega arith) (omega arith))
    ∙ none_between F (a + 1) n (λ j low high. silent j (omega (arith, low)) (omega (arith, high)))

in_two : (F : ℕ → List Event) (a m n k : ℕ) → k ≡ m + n → flat_map F (range_with_len a k) ≡ flat_map F (range_with_len a m) ++ flat_map F (range_with_len (a + m) n)
in_two F a zero n k e = ap (λ k. flat_map F (range_with_len a k)) (let e : k ≡ n = omega (arith, e) in e) ∙ ap (λ b. flat_map F (range_with_len b n)) (let e : a ≡ a + 0 = omega arith in e)
in_two F a (suc m) n zero e = absurd (omega (arith, e))
in_two F a (suc m) n (suc k) e =
    ap (λ es. F a ++ es) (in_two F (a + 1) m n k (omega (arith, e)) ∙ ap (λ b. flat_map F (range_with_len (a + 1) m) ++ flat_map F (range_with_len b n)) (let e : a + 1 + m ≡ a + suc m = omega arith in e))
    ∙ sym (append_assoc (F a) (flat_map F (range_with_len (a + 1) m)) (flat_map F (range_with_len (a + suc m) n)))

up_to : (F : ℕ → List Event) (from t : ℕ) → from ≤ t → ((j : ℕ) → from ≤ j → j < t → F j ≡ []) → flat_map F (range_with_len 0 (t + 1)) ≡ flat_map F (range_with_len 0 from) ++ F t
up_to F from t low silent =
    in_two F 0 t 1 (t + 1) refl
    ∙ ap (λ es. flat_map F (range_with_len 0 t) ++ es) (append-nil (F (0 + t)) ∙ ap F (let e : 0 + t ≡ t = omega arith in e))
    ∙ ap (λ es. es ++ F t) (in_two F 0 from (t - from) t (omega (arith, low))
    ∙ ap (λ es. flat_map F (range_with_len 0 from) ++ es) (none_between F (0 + from) (t - from) (λ j high below. silent j (omega (arith, high)) (omega (arith, below, low))))
    ∙ append-nil (flat_map F (range_with_len 0 from)))

-- ---- one turn of the loop

pub leaving_next : (ends : List ℕ) (number from t : ℕ) (before left behind : HeldTemporaries) (first out now : List Event) → next_held from before left ≡ Some t → from ≤ t →
    out ≡ first ++ flat_map (leaving_at ends number before left behind) (range_with_len 0 from) → now ≡ out ++ leaving_at ends number before left behind t →
    now ≡ first ++ flat_map (leaving_at ends number before left behind) (range_with_len 0 (t + 1))
leaving_next ends number from t before left behind first out now is low so_far more =
    more ∙ ap (λ es. es ++ leaving_at ends number before left behind t) so_far
    ∙ append_assoc first (flat_map (leaving_at ends number before left behind) (range_with_len 0 from)) (leaving_at ends number before left behind t)
    ∙ ap (λ es. first ++ es) (sym (up_to (leaving_at ends number before left behind) from t low (λ j high below.
    let none = past_next from before left j high (record { past = λ u e. let same = same_Some t u (sym is ∙ e) in omega (arith, below, same) }) in
    quiet ends number before left behind j none.0 none.1)))

pub leaving_done : (ends : List ℕ) (number from : ℕ) (before left behind : HeldTemporaries) (first out : List Event) → next_held from before left ≡ None → from ≤ length ends →
    out ≡ first ++ flat_map (leaving_at ends number before left behind) (range_with_len 0 from) → out ≡ first ++ all_leaving ends number before left behind
leaving_done ends number from before left behind first out is low so_far =
    so_far ∙ ap (λ es. first ++ es) (sym (in_two (leaving_at ends number before left behind) 0 from (length ends - from) (length ends) (omega (arith, low))
    ∙ ap (λ es. flat_map (leaving_at ends number before left behind) (range_with_len 0 from) ++ es)
    (none_between (leaving_at ends number before left behind) (0 + from) (length ends - from) (λ j high below.
    let none = past_next from before left j (omega (arith, high)) (record { past = λ u e. absurd (none-some u (sym is ∙ e)) }) in
    quiet ends number before left behind j none.0 none.1))
    ∙ append-nil (flat_map (leaving_at ends number before left behind) (range_with_len 0 from))))
