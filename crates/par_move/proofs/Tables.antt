-- What a table says after a write, and its counts.
use Rattle.std.proofs.Common.{◌≡◌, ◌≢◌, ℕ, zero, suc, ◌<◌, ◌≤◌, ◌+◌, ◌-◌, ◌⊎◌, List, Option, Some, None, Bool, true, false, refl, sym, ap, ◌∙◌, subst, inl, inr, ⊎_elim, length, nat_eq, nat_lt, get_or, arith}
use Rattle.std.specs.Prelude.{if◌then◌else◌, slice_set, sum}
use Rattle.std.proofs.lemmas.List.{get_or-set_same, get_or-set_other, length-set, get_or_past}
use Rattle.std.proofs.lemmas.List.Sums.{sum_by-set}
use Rattle.std.proofs.lemmas.Bool.{eqb-true, eq-eqb, ltb-true, ltb-false}
use Rattle.par_move.specs.model.Rest.{source_at, reads_at, waits, waits_for, waiting, waiting_for, IsCounted, ready_at, if_none}

pub eqb_same : (n : ℕ) → nat_eq n n ≡ true
eqb_same n = eq-eqb n n refl

pub eqb_other : (m n : ℕ) → m ≢ n → nat_eq m n ≡ false
eqb_other m n ne = go (nat_eq m n) refl
  where
    go : (b : Bool) → nat_eq m n ≡ b → b ≡ false
    go true e = absurd (ne (eqb-true m n e))
    go false e = refl

pub same_or : (m n : ℕ) → (m ≡ n) ⊎ (m ≢ n)
same_or m n = go (nat_eq m n) refl
  where
    go : (b : Bool) → nat_eq m n ≡ b → (m ≡ n) ⊎ (m ≢ n)
    go true e = inl (eqb-true m n e)
    go false e = inr (λ d. let f : nat_eq m n ≡ true = eq-eqb m n d in let clash : true ≡ false = sym f ∙ e in cc)

pub lt_or : (m n : ℕ) → (m < n) ⊎ (n ≤ m)
lt_or m n = go (nat_lt m n) refl
  where
    go : (b : Bool) → nat_lt m n ≡ b → (m < n) ⊎ (n ≤ m)
    go true e = inl (ltb-true m n e)
    go false e = inr (ltb-false m n e)

pub some_same : (a b : ℕ) → Some a ≡ Some b → a ≡ b
some_same a b e = cc

pub not_some : (a : ℕ) (o : Option ℕ) → o ≡ None → o ≡ Some a → ⊥
not_some a o e f = cc

-- a place that has something is in the table
pub source_there : (S : List (Option ℕ)) (t q : ℕ) → source_at S t ≡ Some q → t < length S
unfolding source_at
source_there S t q e = ⊎_elim
    (λ (w : t < length S). w)
    (λ (w : length S ≤ t). absurd (not_some q _ (get_or_past S t None w) e)) (lt_or t (length S))

pub source_same : (S : List (Option ℕ)) (t : ℕ) (o : Option ℕ) → t < length S → source_at (slice_set S t o) t ≡ o
unfolding source_at
source_same S t o w = get_or-set_same S t o None w

pub source_other : (S : List (Option ℕ)) (t u : ℕ) (o : Option ℕ) → u ≢ t → source_at (slice_set S t o) u ≡ source_at S u
unfolding source_at
source_other S t u o n = get_or-set_other S t u o None n

pub reads_same : (R : List ℕ) (t n : ℕ) → t < length R → reads_at (slice_set R t n) t ≡ n
unfolding reads_at
reads_same R t n w = get_or-set_same R t n 0 w

pub reads_other : (R : List ℕ) (t u n : ℕ) → u ≢ t → reads_at (slice_set R t n) u ≡ reads_at R u
unfolding reads_at
reads_other R t u n w = get_or-set_other R t u n 0 w

-- one entry of a table is another one
pub waiting_set : (S : List (Option ℕ)) (t : ℕ) (o : Option ℕ) → t < length S → waiting (slice_set S t o) + waits (source_at S t) ≡ waiting S + waits o
unfolding waiting source_at
waiting_set S t o w = sum_by-set waits S t o None w

pub waiting_for_set : (q : ℕ) (S : List (Option ℕ)) (t : ℕ) (o : Option ℕ) → t < length S → waiting_for q (slice_set S t o) + waits_for q (source_at S t) ≡ waiting_for q S + waits_for q o
unfolding waiting_for source_at
waiting_for_set q S t o w = sum_by-set (waits_for q) S t o None w

pub sum_set : (R : List ℕ) (t n : ℕ) → t < length R → sum (slice_set R t n) + reads_at R t ≡ sum R + n
unfolding reads_at
sum_set R t n w = sum_by-set (λ x. x) R t n 0 w

pub one_waits : (q : ℕ) → waits_for q (Some q) ≡ 1
unfolding waits_for
one_waits q = ap (λ b. if b then 1 else 0) (eqb_same q)

pub none_waits : (q p : ℕ) → p ≢ q → waits_for q (Some p) ≡ 0
unfolding waits_for
none_waits q p n = ap (λ b. if b then 1 else 0) (eqb_other p q n)

pub waits_some : (q : ℕ) → waits (Some q) ≡ 1
unfolding waits
waits_some q = refl

pub waits_none : waits None ≡ 0
unfolding waits
waits_none = refl

pub waits_for_none : (q : ℕ) → waits_for q None ≡ 0
unfolding waits_for
waits_for_none q = refl

-- something that waits is counted
pub is_counted : (S : List (Option ℕ)) (t q : ℕ) → source_at S t ≡ Some q → 1 ≤ waiting_for q S
is_counted S t q e =
    let a = waiting_for_set q S t None (source_there S t q e) in
    let b : waits_for q (source_at S t) ≡ 1 = ap (waits_for q) e ∙ one_waits q in
    let c = waits_for_none q in
    omega (arith, a, b, c)

-- two that wait are counted twice
pub both_counted : (S : List (Option ℕ)) (t u q : ℕ) → t ≢ u → source_at S t ≡ Some q → source_at S u ≡ Some q → 2 ≤ waiting_for q S
both_counted S t u q n e f =
    let a = waiting_for_set q S t None (source_there S t q e) in
    let b : waits_for q (source_at S t) ≡ 1 = ap (waits_for q) e ∙ one_waits q in
    let c = waits_for_none q in
    let d : 1 ≤ waiting_for q (slice_set S t None) = is_counted (slice_set S t None) u q (source_other S t u None (λ v. n (sym v)) ∙ f) in
    omega (arith, a, b, c, d)

-- what can be filled waits, and nothing waits for it
pub ready_parts : (S : List (Option ℕ)) (R : List ℕ) (t q : ℕ) → ready_at S R t ≡ Some q → (reads_at R t ≡ 0) × (source_at S t ≡ Some q)
unfolding source_at reads_at
ready_parts S R t q e = go (get_or R t 0) refl e
  where
    go : (n : ℕ) → get_or R t 0 ≡ n → if_none n (get_or S t None) ≡ Some q → (get_or R t 0 ≡ 0) × (get_or S t None ≡ Some q)
    go zero d f = (d, f)
    go (suc n) d f = absurd (cc)

pub ready_same : (S T : List (Option ℕ)) (R Q : List ℕ) (t : ℕ) → source_at S t ≡ source_at T t → reads_at R t ≡ reads_at Q t → ready_at S R t ≡ ready_at T Q t
unfolding source_at reads_at
ready_same S T R Q t e f = ap (λ n. if_none n (get_or S t None)) f ∙ ap (λ o. if_none (get_or Q t 0) o) e

pub ready_none : (S : List (Option ℕ)) (R : List ℕ) (t : ℕ) → source_at S t ≡ None → ready_at S R t ≡ None
unfolding source_at
ready_none S R t e = go (get_or R t 0)
  where
    go : (n : ℕ) → if_none n (get_or S t None) ≡ None
    go zero = e
    go (suc n) = refl

pub ready_read : (S : List (Option ℕ)) (R : List ℕ) (t : ℕ) → reads_at R t ≡ 0 → ready_at S R t ≡ source_at S t
unfolding source_at reads_at
ready_read S R t e = ap (λ n. if_none n (get_or S t None)) e

-- the counts after a move
pub make_counted : (S : List (Option ℕ)) (R : List ℕ) (t q : ℕ) → IsCounted S R → source_at S t ≡ Some q → IsCounted (slice_set S t None) (slice_set R q (reads_at R q - 1))
make_counted S R t q k e = record {
  many = length-set S t None ∙ k.many;
  as_many = length-set R q (reads_at R q - 1) ∙ k.as_many;
  counts = λ p w. ⊎_elim
      (λ (v : p ≡ q). subst (λ z. reads_at (slice_set R q (reads_at R q - 1)) z ≡ waiting_for z (slice_set S t None)) (sym v) same)
      (λ (v : p ≢ q).
      let a = waiting_for_set p S t None there in
      let b : waits_for p (source_at S t) ≡ 0 = ap (waits_for p) e ∙ none_waits p q (λ z. v (sym z)) in
      let c = waits_for_none p in
      let d = k.counts p w in
      let f = reads_other R q p (reads_at R q - 1) v in
      omega (arith, a, b, c, d, f)) (same_or p q);
  within = λ r p f. ⊎_elim
      (λ (v : r ≡ t). absurd (not_some p _ (ap (source_at (slice_set S t None)) v ∙ source_same S t None there) f))
      (λ (v : r ≢ t). k.within r p (sym (source_other S t r None v) ∙ f)) (same_or r t);
  total =
      let a = waiting_set S t None there in
      let b : waits (source_at S t) ≡ 1 = ap waits e ∙ waits_some q in
      let c = waits_none in
      let d = sum_set R q (reads_at R q - 1) (omega (arith, below, k.as_many)) in
      let f = k.total in
      omega (arith, a, b, c, d, f, some);
}
  where
    there : t < length S
    there = source_there S t q e

    below : q < 256
    below = k.within t q e

    some : 1 ≤ reads_at R q
    some = let a = is_counted S t q e in let b = k.counts q below in omega (arith, a, b)

    same : reads_at (slice_set R q (reads_at R q - 1)) q ≡ waiting_for q (slice_set S t None)
    same =
        let a = waiting_for_set q S t None there in
        let b : waits_for q (source_at S t) ≡ 1 = ap (waits_for q) e ∙ one_waits q in
        let c = waits_for_none q in
        let d = k.counts q below in
        let f = reads_same R q (reads_at R q - 1) (omega (arith, below, k.as_many)) in
        omega (arith, a, b, c, d, f)
