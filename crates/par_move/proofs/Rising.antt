-- Two rising lists with the same members are the same.
use Rattle.std.proofs.Common.{◌≡◌, ℕ, zero, suc, ◌<◌, ◌⊎◌, List, [], ◌∷◌, Some, refl, sym, ap, ◌∙◌, inl, inr, ⊎_elim, length, get_or, arith}
use Rattle.std.specs.Prelude.{Contains}
use Rattle.std.proofs.lemmas.Option.{slice_get-get_or}
use Rattle.par_move.specs.Moves.{IsRising}
use Rattle.par_move.specs.Laws.{CyclesAreOneList, CountIsOne}

first_or_rest : (x r : ℕ) (xs : List ℕ) → Contains (x ∷ xs) r → (x ≡ r) ⊎ Contains xs r
first_or_rest x r xs (k, w, e) = go k w e
  where
    go : (k : ℕ) → k < length (x ∷ xs) → get_or (x ∷ xs) k r ≡ r → (x ≡ r) ⊎ Contains xs r
    go zero w e = inl e
    go (suc k) w e = inr (k, omega (arith, w), e)

behind : (x r : ℕ) (xs : List ℕ) → Contains xs r → Contains (x ∷ xs) r
behind x r xs (k, w, e) = (suc k, omega (arith, w), e)

-- what stands behind the first one is above it
above : (x r : ℕ) (xs : List ℕ) → IsRising (x ∷ xs) → Contains xs r → x < r
above x r xs k (i, w, e) = k 0 (suc i) x r (omega arith) refl (slice_get-get_or xs i r w ∙ ap Some e)

rest_rises : (x : ℕ) (xs : List ℕ) → IsRising (x ∷ xs) → IsRising xs
rest_rises x xs k i j a b w e f = k (suc i) (suc j) a b (omega (arith, w)) e f

rising_same : (cs ds : List ℕ) → IsRising cs → IsRising ds → ((r : ℕ) → Contains cs r → Contains ds r) → ((r : ℕ) → Contains ds r → Contains cs r) → cs ≡ ds
rising_same [] [] k l f g = refl
rising_same [] (d ∷ ds) k l f g = absurd (let c = g d (0, omega arith, refl) in let w = c.1 in omega (arith, w))
rising_same (c ∷ cs) [] k l f g = absurd (let d = f c (0, omega arith, refl) in let w = d.1 in omega (arith, w))
rising_same (c ∷ cs) (d ∷ ds) k l f g = ap (λ z. z ∷ cs) same ∙ ap (λ z. d ∷ z) (rising_same cs ds (rest_rises c cs k) (rest_rises d ds l)
    (λ r h. ⊎_elim
    (λ (v : d ≡ r). absurd (let w = above c r cs k h in omega (arith, v, w, same)))
    (λ (v : Contains ds r). v) (first_or_rest d r ds (f r (behind c r cs h))))
    (λ r h. ⊎_elim
    (λ (v : c ≡ r). absurd (let w = above d r ds l h in omega (arith, v, w, same)))
    (λ (v : Contains cs r). v) (first_or_rest c r cs (g r (behind d r ds h)))))
  where
    same : c ≡ d
    same = ⊎_elim
        (λ (v : d ≡ c). sym v)
        (λ (v : Contains ds c). ⊎_elim
        (λ (u : c ≡ d). u)
        (λ (u : Contains cs d). absurd (let a = above d c ds l v in let b = above c d cs k u in omega (arith, a, b))) (first_or_rest c d cs (g d (0, omega arith, refl))))
        (first_or_rest d c ds (f c (0, omega arith, refl)))

pub one_list : CyclesAreOneList
one_list moves cs ds a b = rising_same cs ds a.rising b.rising (λ r h. (b.each r).1 ((a.each r).0 h)) (λ r h. (a.each r).1 ((b.each r).0 h))

pub one_count : CountIsOne
one_count moves made other a b = let e = ap length (one_list moves a.cycles b.cycles a.are b.are) in let f = a.long in let g = b.long in omega (arith, e, f, g)
