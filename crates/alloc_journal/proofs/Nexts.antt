-- The lowest temporary that leaves a register: those below it leave none.
use Rattle.std.proofs.Common.{◌≡◌, ◌≢◌, ◌⊎◌, ℕ, zero, suc, ◌+◌, ◌-◌, ◌*◌, ◌<◌, ◌≤◌, ◌==◌, List, [], ◌++◌, Bool, true, false, Option, Some, None, if◌then◌else◌, refl, sym, ap, ◌∙◌, subst, ⊎_elim, length, append_assoc, append-nil, arith}
use Rattle.std.specs.Prelude.{flat_map}
use Rattle.std.specs.List.{range_with_len}
use Rattle.std.proofs.lemmas.Bool.{cases_lt, lt-ltb, le-ltb, eqb-true, eq-eqb}
use Rattle.std.proofs.lemmas.Option.{none-some, same_Some}
use Rattle.alloc_model.specs.declared.allocation.Event.{Event}
use Rattle.alloc_rules.specs.declared.scan.Lifetimes.{Lifetimes}
use Rattle.alloc_rules.specs.Journal.{eviction}
use Rattle.binpack_blocks.proofs.Holders.{same_or_not, test_or_not, not_both}
use Rattle.alloc_journal.specs.Covered.{lifetime_covers}
use Rattle.alloc_journal.specs.model.Holders.{Holders, holder_in, is_in, register_in}
use Rattle.alloc_journal.specs.model.Tables.{AreBelow}
use Rattle.alloc_journal.specs.model.Leaving.{unless_held, gone, lower, sooner, soonest, next_gone, leaving_events, leaving_at, all_leaving}
use Rattle.alloc_journal.proofs.Tables.{register_has, is_there}

-- a number is below what was found, if anything was
pub record IsPast (o : Option ℕ) (j : ℕ) : Type 0 where
  pub past : (t : ℕ) → o ≡ Some t → j < t

-- what was found is of a kind
pub record IsFound (P : ℕ → Type 0) (o : Option ℕ) : Type 0 where
  pub found : (t : ℕ) → o ≡ Some t → P t

other_number : (t j : ℕ) → (t ≡ j → ⊥) → (t == j) ≡ false
other_number t j apart = ⊎_elim (λ (e : (t == j) ≡ true). absurd (apart (eqb-true t j e))) (λ no. no) (test_or_not (t == j))

past_lower : (best : Option ℕ) (t j : ℕ) → IsPast (lower best t) j → (j < t) × IsPast best j
past_lower None t j p = (p.past t refl, record { past = λ u e. absurd (none-some u e) })
past_lower (Some u) t j p = ⊎_elim
    (λ (below : t < u).
    let low = p.past t (ap (λ b. if b then Some t else Some u) (lt-ltb t u below)) in
    (low, record { past = λ v e. let same = same_Some u v e in omega (arith, low, below, same) }))
    (λ (above : u ≤ t).
    let low = p.past u (ap (λ b. if b then Some t else Some u) (le-ltb t u above)) in
    (omega (arith, low, above), record { past = λ v e. let same = same_Some u v e in omega (arith, low, same) }))
    (cases_lt t u)

past_sooner : (from : ℕ) (best other : Option ℕ) (j : ℕ) → from ≤ j → IsPast (sooner from best other) j → (is_in other j ≡ false) × IsPast best j
past_sooner from best None j high p = (refl, p)
past_sooner from best (Some t) j high p = ⊎_elim
    (λ (below : t < from).
    (other_number t j (λ e. omega (arith, below, high, e)), subst (λ b. IsPast (if b then best else lower best t) j) (lt-ltb t from below) p))
    (λ (above : from ≤ t).
    let both = past_lower best t j (subst (λ b. IsPast (if b then best else lower best t) j) (le-ltb t from above) p) in
    (let low = both.0 in other_number t j (λ e. omega (arith, low, e)), both.1))
    (cases_lt t from)

-- none of the registers below a number has one that is gone and is that number
abbrev AreNotGone : (before behind : Holders) → (count j : ℕ) → Type 0
AreNotGone before behind count j = (r : ℕ) → r < count → is_in (gone (holder_in before r) behind) j ≡ false

past_soonest : (from : ℕ) (found : Option ℕ) (b h : Holders) (n j : ℕ) → from ≤ j → IsPast (soonest from found b h n) j → AreNotGone b h n j × IsPast found j
unfolding soonest
past_soonest from found b h zero j high p = ((λ r low. absurd (omega (arith, low))), p)
past_soonest from found b h (suc n) j high p =
    let last = past_sooner from (soonest from found b h n) (gone (holder_in b n) h) j high p in
    let rest = past_soonest from found b h n j high last.1 in (
      (λ r low. ⊎_elim
          (λ (same : r ≡ n). ap (λ q. is_in (gone (holder_in b q) h) j) same ∙ last.0)
          (λ (ne : r ≢ n). rest.0 r (omega (arith, low, ne)))
          (same_or_not r n)),
      rest.1,
    )

past_next : (from : ℕ) (before left behind : Holders) (j : ℕ) → from ≤ j → IsPast (next_gone from before left behind) j → AreNotGone before left 26 j × AreNotGone left behind 26 j
past_next from before left behind j high p =
    let second = past_soonest from (soonest from None before left 26) left behind 26 j high p in
    let first = past_soonest from None before left 26 j high second.1 in
    (first.0, second.0)

-- ---- what is found is one of so many

abbrev Above : (from : ℕ) → (Q : ℕ → Type 0) → ℕ → Type 0
Above from Q t = (from ≤ t) × Q t

found_lower : (P : ℕ → Type 0) (best : Option ℕ) (t : ℕ) → P t → IsFound P best → IsFound P (lower best t)
found_lower P None t p f = record { found = λ u e. subst P (same_Some t u e) p }
found_lower P (Some u) t p f = ⊎_elim
    (λ (below : t < u). subst (λ b. IsFound P (if b then Some t else Some u)) (sym (lt-ltb t u below)) (record { found = λ v e. subst P (same_Some t v e) p }))
    (λ (above : u ≤ t). subst (λ b. IsFound P (if b then Some t else Some u)) (sym (le-ltb t u above)) f)
    (cases_lt t u)

found_sooner : (Q : ℕ → Type 0) (from : ℕ) (best other : Option ℕ) → IsFound (Above from Q) best → ((t : ℕ) → other ≡ Some t → Q t) → IsFound (Above from Q) (sooner from best other)
found_sooner Q from best None f all = f
found_sooner Q from best (Some t) f all = ⊎_elim
    (λ (below : t < from). subst (λ b. IsFound (Above from Q) (if b then best else lower best t)) (sym (lt-ltb t from below)) f)
    (λ (above : from ≤ t). subst (λ b. IsFound (Above from Q) (if b then best else lower best t)) (sym (le-ltb t from above))
    (found_lower (Above from Q) best t (above, all t refl) f))
    (cases_lt t from)

gone_was : (o : Option ℕ) (h : Holders) (t : ℕ) → gone o h ≡ Some t → o ≡ Some t
gone_was None h t e = absurd (none-some t e)
gone_was (Some u) h t e = by (register_in h u) e
  where
    by : (p : Option ℕ) → unless_held p u ≡ Some t → Some u ≡ Some t
    by None e = e
    by (Some r) e = absurd (none-some t e)

found_soonest : (Q : ℕ → Type 0) (from : ℕ) (found : Option ℕ) (b h : Holders) (n : ℕ) → ((r t : ℕ) → holder_in b r ≡ Some t → Q t) → IsFound (Above from Q) found → IsFound (Above from Q) (soonest from found b h n)
unfolding soonest
found_soonest Q from found b h zero all f = f
found_soonest Q from found b h (suc n) all f =
    found_sooner Q from (soonest from found b h n) (gone (holder_in b n) h) (found_soonest Q from found b h n all f) (λ t e. all n t (gone_was (holder_in b n) h t e))

pub found_next : (temps from : ℕ) (before left behind : Holders) (t : ℕ) → AreBelow temps before → AreBelow temps left → next_gone from before left behind ≡ Some t → (from ≤ t) × (t < temps)
found_next temps from before left behind t first second is =
    let f = found_soonest (λ u. u < temps) from (soonest from None before left 26) left behind 26 second.each
    (found_soonest (λ u. u < temps) from None before left 26 first.each (record { found = λ u e. absurd (none-some u e) })) in
    f.found t is

-- ---- the events of those between

-- one that is not gone keeps a register, or had none
silent : (covered : Bool) (b h : Holders) (j : ℕ) → length b ≡ 26 → AreNotGone b h 26 j → eviction covered (register_in b j) (register_in h j) j ≡ []
silent covered b h j many stays = by (register_in b j) refl
  where
    kept : (q : ℕ) → register_in b j ≡ Some q → (o : Option ℕ) → register_in h j ≡ o → eviction covered (Some q) o j ≡ []
    kept q e (Some p) f = refl
    kept q e None f =
        let has = register_has b j q e in
        let within = has.0 in
        not_both (is_in (gone (holder_in b q) h) j)
        (is_there (gone (holder_in b q) h) j (ap (λ o. gone o h) has.1 ∙ ap (λ p. unless_held p j) f))
        (stays q (omega (arith, within, many)))

    by : (o : Option ℕ) → register_in b j ≡ o → eviction covered (register_in b j) (register_in h j) j ≡ []
    by None e = ap (λ p. eviction covered p (register_in h j) j) e
    by (Some q) e = ap (λ p. eviction covered p (register_in h j) j) e ∙ kept q e (register_in h j) refl

quiet : (lives : Lifetimes) (number : ℕ) (before left behind : Holders) (j : ℕ) → length before ≡ 26 → length left ≡ 26 → AreNotGone before left 26 j × AreNotGone left behind 26 j → leaving_at lives number before left behind j ≡ []
quiet lives number before left behind j first second stays =
    ap (λ es. es ++ leaving_events lives (2 * number + 1) left behind j) (silent (lifetime_covers lives j (2 * number)) before left j first stays.0)
    ∙ silent (lifetime_covers lives j (2 * number + 1)) left behind j second stays.1

none_between : (F : ℕ → List Event) (a n : ℕ) → ((j : ℕ) → a ≤ j → j < a + n → F j ≡ []) → flat_map F (range_with_len a n) ≡ []
none_between F a zero still = refl
none_between F a (suc n) still =
    ap (λ es. es ++ flat_map F (range_with_len (a + 1) n)) (still a (omega arith) (omega arith))
    ∙ none_between F (a + 1) n (λ j low high. still j (omega (arith, low)) (omega (arith, high)))

in_two : (F : ℕ → List Event) (a m n k : ℕ) → k ≡ m + n → flat_map F (range_with_len a k) ≡ flat_map F (range_with_len a m) ++ flat_map F (range_with_len (a + m) n)
in_two F a zero n k e = ap (λ k. flat_map F (range_with_len a k)) (let e : k ≡ n = omega (arith, e) in e) ∙ ap (λ b. flat_map F (range_with_len b n)) (let e : a ≡ a + 0 = omega arith in e)
in_two F a (suc m) n zero e = absurd (omega (arith, e))
in_two F a (suc m) n (suc k) e =
    ap (λ es. F a ++ es) (in_two F (a + 1) m n k (omega (arith, e)) ∙ ap (λ b. flat_map F (range_with_len (a + 1) m) ++ flat_map F (range_with_len b n)) (let e : a + 1 + m ≡ a + suc m = omega arith in e))
    ∙ sym (append_assoc (F a) (flat_map F (range_with_len (a + 1) m)) (flat_map F (range_with_len (a + suc m) n)))

up_to : (F : ℕ → List Event) (from t : ℕ) → from ≤ t → ((j : ℕ) → from ≤ j → j < t → F j ≡ []) → flat_map F (range_with_len 0 (t + 1)) ≡ flat_map F (range_with_len 0 from) ++ F t
up_to F from t low still =
    in_two F 0 t 1 (t + 1) refl
    ∙ ap (λ es. flat_map F (range_with_len 0 t) ++ es) (append-nil (F (0 + t)) ∙ ap F (let e : 0 + t ≡ t = omega arith in e))
    ∙ ap (λ es. es ++ F t) (in_two F 0 from (t - from) t (omega (arith, low))
    ∙ ap (λ es. flat_map F (range_with_len 0 from) ++ es) (none_between F (0 + from) (t - from) (λ j high below. still j (omega (arith, high)) (omega (arith, below, low))))
    ∙ append-nil (flat_map F (range_with_len 0 from)))

-- ---- one turn of the loop

pub leaving_next : (lives : Lifetimes) (number from t : ℕ) (before left behind : Holders) (first out now : List Event) → length before ≡ 26 → length left ≡ 26 → next_gone from before left behind ≡ Some t → from ≤ t →
    out ≡ first ++ flat_map (leaving_at lives number before left behind) (range_with_len 0 from) → now ≡ out ++ leaving_at lives number before left behind t →
    now ≡ first ++ flat_map (leaving_at lives number before left behind) (range_with_len 0 (t + 1))
leaving_next lives number from t before left behind first out now one two is low so_far more =
    more ∙ ap (λ es. es ++ leaving_at lives number before left behind t) so_far
    ∙ append_assoc first (flat_map (leaving_at lives number before left behind) (range_with_len 0 from)) (leaving_at lives number before left behind t)
    ∙ ap (λ es. first ++ es) (sym (up_to (leaving_at lives number before left behind) from t low (λ j high below.
    quiet lives number before left behind j one two
    (past_next from before left behind j high (record { past = λ u e. let same = same_Some t u (sym is ∙ e) in omega (arith, below, same) })))))

pub leaving_done : (temps : ℕ) (lives : Lifetimes) (number from : ℕ) (before left behind : Holders) (first out : List Event) → length before ≡ 26 → length left ≡ 26 → next_gone from before left behind ≡ None → from ≤ temps →
    out ≡ first ++ flat_map (leaving_at lives number before left behind) (range_with_len 0 from) → out ≡ first ++ all_leaving temps lives number before left behind
leaving_done temps lives number from before left behind first out one two is low so_far =
    so_far ∙ ap (λ es. first ++ es) (sym (in_two (leaving_at lives number before left behind) 0 from (temps - from) temps (omega (arith, low))
    ∙ ap (λ es. flat_map (leaving_at lives number before left behind) (range_with_len 0 from) ++ es)
    (none_between (leaving_at lives number before left behind) (0 + from) (temps - from) (λ j high below.
    quiet lives number before left behind j one two
    (past_next from before left behind j (omega (arith, high)) (record { past = λ u e. absurd (none-some u (sym is ∙ e)) }))))
    ∙ append-nil (flat_map (leaving_at lives number before left behind) (range_with_len 0 from))))
