-- Where nothing can be filled, what waits is a permutation.
use Rattle.std.proofs.Common.{◌≡◌, ◌≢◌, ℕ, zero, suc, ◌<◌, ◌≤◌, List, [], ◌∷◌, Option, Some, None, refl, sym, ap, ◌∙◌, ⊎_elim, length, arith}
use Rattle.std.specs.Prelude.{sum}
use Rattle.std.proofs.lemmas.List.Sums.{sum_by-cons}
use Rattle.par_move.specs.model.Rest.{source_at, reads_at, waits, waiting, IsCounted, ready_at}
use Rattle.par_move.proofs.Tables.{source_there, is_counted, both_counted, ready_read, waits_some, waits_none, same_or, not_some}

-- each count is as large as what waits there
sums_le : (S : List (Option ℕ)) (R : List ℕ) → length S ≡ length R → ((k : ℕ) → waits (source_at S k) ≤ reads_at R k) → waiting S ≤ sum R
unfolding waiting source_at reads_at
sums_le [] [] e f = omega arith
sums_le [] (y ∷ R) e f = absurd (omega arith)
sums_le (x ∷ S) [] e f = absurd (omega arith)
sums_le (x ∷ S) (y ∷ R) e f =
    let i = sums_le S R (omega (arith, e)) (λ k. f (suc k)) in
    let a : waits x ≤ y = f 0 in
    let b = sum_by-cons waits x S in
    let c = sum_by-cons (λ (n : ℕ). n) y R in
    omega (arith, i, a, b, c)

pub sums_same : (S : List (Option ℕ)) (R : List ℕ) → length S ≡ length R → ((k : ℕ) → waits (source_at S k) ≤ reads_at R k) → sum R ≡ waiting S → (k : ℕ) → reads_at R k ≡ waits (source_at S k)
unfolding waiting source_at reads_at
sums_same [] [] e f g k = sym waits_none
sums_same [] (y ∷ R) e f g k = absurd (omega arith)
sums_same (x ∷ S) [] e f g k = absurd (omega arith)
sums_same (x ∷ S) (y ∷ R) e f g zero =
    let i = sums_le S R (omega (arith, e)) (λ k. f (suc k)) in
    let a : waits x ≤ y = f 0 in
    let b = sum_by-cons waits x S in
    let c = sum_by-cons (λ (n : ℕ). n) y R in
    omega (arith, i, a, b, c, g)
sums_same (x ∷ S) (y ∷ R) e f g (suc k) =
    let i = sums_le S R (omega (arith, e)) (λ k. f (suc k)) in
    let a : waits x ≤ y = f 0 in
    let b = sum_by-cons waits x S in
    let c = sum_by-cons (λ (n : ℕ). n) y R in
    sums_same S R (omega (arith, e)) (λ k. f (suc k)) (omega (arith, i, a, b, c, g)) k

-- nothing can be filled
abbrev pub Still : List (Option ℕ) → List ℕ → Type 0
Still S R = (i : ℕ) → i < 256 → ready_at S R i ≡ None

pub one_each : (S : List (Option ℕ)) (R : List ℕ) → IsCounted S R → Still S R → (k : ℕ) → reads_at R k ≡ waits (source_at S k)
one_each S R c still = sums_same S R (omega (arith, c.many, c.as_many)) at_most c.total
  where
    at_most : (k : ℕ) → waits (source_at S k) ≤ reads_at R k
    at_most k = go (source_at S k) (reads_at R k) refl refl
      where
        go : (o : Option ℕ) (n : ℕ) → source_at S k ≡ o → reads_at R k ≡ n → waits o ≤ n
        go None n e f = let a = waits_none in omega (arith, a)
        go (Some q) zero e f = absurd (not_some q _ (still k (let w = source_there S k q e in omega (arith, w, c.many))) (ready_read S R k f ∙ e))
        go (Some q) (suc n) e f = let a = waits_some q in omega (arith, a)

-- what is waited for waits itself
pub goes_on : (S : List (Option ℕ)) (R : List ℕ) → IsCounted S R → Still S R → (t q : ℕ) → source_at S t ≡ Some q → (p : ℕ) × (source_at S q ≡ Some p)
goes_on S R c still t q e = go (source_at S q) refl
  where
    go : (o : Option ℕ) → source_at S q ≡ o → (p : ℕ) × (source_at S q ≡ Some p)
    go (Some p) f = (p, f)
    go None f =
        let a = is_counted S t q e in
        let b = c.counts q (c.within t q e) in
        let d = one_each S R c still q in
        let g : waits (source_at S q) ≡ 0 = ap waits f ∙ waits_none in
        absurd (omega (arith, a, b, d, g))

-- and once
pub once : (S : List (Option ℕ)) (R : List ℕ) → IsCounted S R → Still S R → (t u q : ℕ) → source_at S t ≡ Some q → source_at S u ≡ Some q → t ≡ u
once S R c still t u q e f = ⊎_elim
    (λ (v : t ≡ u). v)
    (λ (n : t ≢ u).
    let a = both_counted S t u q n e f in
    let b = c.counts q (c.within t q e) in
    let d = one_each S R c still q in
    let h = goes_on S R c still t q e in
    let g : waits (source_at S q) ≡ 1 = ap waits h.1 ∙ waits_some h.0 in
    absurd (omega (arith, a, b, d, g))) (same_or t u)

-- what does not wait is not waited for
pub not_read : (S : List (Option ℕ)) (R : List ℕ) → IsCounted S R → Still S R → (r : ℕ) → source_at S r ≡ None → reads_at R r ≡ 0
not_read S R c still r e = one_each S R c still r ∙ ap waits e ∙ waits_none
