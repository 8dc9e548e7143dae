-- Among more numbers than there are below a bound two are the same.
use Rattle.std.proofs.Common.{◌≡◌, ◌≢◌, ℕ, zero, suc, ◌<◌, ◌≤◌, ◌⊎◌, nat_eq, sym, ap, ◌∙◌, subst, inl, inr, ⊎_elim, arith}
use Rattle.std.specs.Prelude.{if◌then◌else◌}
use Rattle.par_move.proofs.Tables.{eqb_same, eqb_other, same_or}

-- one of the first numbers is this one, or none is
found : (f : ℕ → ℕ) (m v : ℕ) → ((k : ℕ) × (k < m) × (f k ≡ v)) ⊎ ((k : ℕ) → k < m → f k ≢ v)
found f zero v = inr (λ k w. absurd (omega arith))
found f (suc m) v = go (found f m v) (same_or (f m) v)
  where
    go : ((k : ℕ) × (k < m) × (f k ≡ v)) ⊎ ((k : ℕ) → k < m → f k ≢ v) → (f m ≡ v) ⊎ (f m ≢ v) → ((k : ℕ) × (k < suc m) × (f k ≡ v)) ⊎ ((k : ℕ) → k < suc m → f k ≢ v)
    go (inl a) o = inl (a.0, (let w = a.1 in omega (arith, w)), a.2)
    go (inr a) (inl e) = inl (m, omega arith, e)
    go (inr a) (inr n) = inr (λ k w. ⊎_elim
        (λ (e : k ≡ m). subst (λ z. f z ≢ v) (sym e) n)
        (λ (e : k ≢ m). a k (omega (arith, w, e))) (same_or k m))

-- what is the bound itself is another number
without : (n last : ℕ) → (ℕ → ℕ) → ℕ → ℕ
without n last f k = if nat_eq (f k) n then last else f k

without_is : (n last : ℕ) (f : ℕ → ℕ) (k : ℕ) → f k ≡ n → without n last f k ≡ last
unfolding without
without_is n last f k e = ap (λ v. if nat_eq v n then last else v) e ∙ ap (λ b. if b then last else n) (eqb_same n)

without_not : (n last : ℕ) (f : ℕ → ℕ) (k : ℕ) → f k ≢ n → without n last f k ≡ f k
unfolding without
without_not n last f k e = ap (λ b. if b then last else f k) (eqb_other (f k) n e)

pub two_same : (n : ℕ) (f : ℕ → ℕ) → ((k : ℕ) → k ≤ n → f k < n) → (i : ℕ) × (j : ℕ) × (i < j) × (j ≤ n) × (f i ≡ f j)
two_same zero f w = absurd (let a = w 0 (omega arith) in omega (arith, a))
two_same (suc n) f w = ⊎_elim
    (λ (a : (k : ℕ) × (k < suc n) × (f k ≡ f (suc n))). (a.0, suc n, a.1, omega arith, a.2))
    (λ (none : (k : ℕ) → k < suc n → f k ≢ f (suc n)). back none (two_same n (without n (f (suc n)) f) (λ k v. below none k v)))
    (found f (suc n) (f (suc n)))
  where
    below : ((k : ℕ) → k < suc n → f k ≢ f (suc n)) → (k : ℕ) → k ≤ n → without n (f (suc n)) f k < n
    below none k v = ⊎_elim
        (λ (e : f k ≡ n). subst (λ z. z < n) (sym (without_is n (f (suc n)) f k e)) (let a = w (suc n) (omega arith) in let b = none k (omega (arith, v)) in omega (arith, a, b, e)))
        (λ (e : f k ≢ n). subst (λ z. z < n) (sym (without_not n (f (suc n)) f k e)) (let a = w k (omega (arith, v)) in omega (arith, a, e))) (same_or (f k) n)

    same : ((k : ℕ) → k < suc n → f k ≢ f (suc n)) → (i j : ℕ) → i ≤ n → j ≤ n → without n (f (suc n)) f i ≡ without n (f (suc n)) f j → f i ≡ f j
    same none i j v u e = ⊎_elim
        (λ (a : f i ≡ n). ⊎_elim
        (λ (b : f j ≡ n). a ∙ sym b)
        (λ (b : f j ≢ n). absurd (none j (omega (arith, u)) (sym (without_not n (f (suc n)) f j b) ∙ sym e ∙ without_is n (f (suc n)) f i a))) (same_or (f j) n))
        (λ (a : f i ≢ n). ⊎_elim
        (λ (b : f j ≡ n). absurd (none i (omega (arith, v)) (sym (without_not n (f (suc n)) f i a) ∙ e ∙ without_is n (f (suc n)) f j b)))
        (λ (b : f j ≢ n). sym (without_not n (f (suc n)) f i a) ∙ e ∙ without_not n (f (suc n)) f j b) (same_or (f j) n)) (same_or (f i) n)

    back : ((k : ℕ) → k < suc n → f k ≢ f (suc n)) → (i : ℕ) × (j : ℕ) × (i < j) × (j ≤ n) × (without n (f (suc n)) f i ≡ without n (f (suc n)) f j) → (i : ℕ) × (j : ℕ) × (i < j) × (j ≤ suc n) × (f i ≡ f j)
    back none t = let x = t.2 in let y = t.3 in (t.0, t.1, t.2, omega (arith, y), same none t.0 t.1 (omega (arith, x, y)) y t.4)
