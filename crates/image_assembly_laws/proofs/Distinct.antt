-- Lists whose numbers differ.
use Rattle.std.proofs.Common.{◌≡◌, ◌≢◌, ℕ, zero, suc, ◌+◌, ◌<◌, ◌≤◌, Bool, true, false, not, List, [], ◌∷◌, ◌++◌, length, get_or, refl, arith, ⊎_elim}
use Rattle.std.specs.Prelude.{◌&&◌, ◌==◌}
use Rattle.std.specs.List.{AllPairs, Contains, list_all, list_any, range_with_len}
use Rattle.std.proofs.lemmas.Bool.{and_parts, or_cases, eqb-true, eq-eqb, cases_lt}

abbrev pub Each : (ℕ → Type 0) → List ℕ → Type 0
Each P [] = Unit {0}
Each P (x ∷ xs) = P x × Each P xs

abbrev pub Distinct : List ℕ → Type 0
Distinct [] = Unit {0}
Distinct (x ∷ xs) = Each (λ y. x ≢ y) xs × Distinct xs

pub each-at : (P : ℕ → Type 0) (xs : List ℕ) (k d : ℕ) → Each P xs → k < length xs → P (get_or xs k d)
each-at P [] k d h lt = absurd (omega (arith, lt))
each-at P (x ∷ xs) zero d h lt = h.0
each-at P (x ∷ xs) (suc k) d h lt = each-at P xs k d h.1 (omega (arith, lt))

pub each-weaker : (P Q : ℕ → Type 0) (xs : List ℕ) → ((x : ℕ) → P x → Q x) → Each P xs → Each Q xs
each-weaker P Q [] f h = tt
each-weaker P Q (x ∷ xs) f h = (f x h.0, each-weaker P Q xs f h.1)

pub each-append : (P : ℕ → Type 0) (xs ys : List ℕ) → Each P xs → Each P ys → Each P (xs ++ ys)
each-append P [] ys h k = k
each-append P (x ∷ xs) ys h k = (h.0, each-append P xs ys h.1 k)

pub pairs-differ : (xs : List ℕ) → Distinct xs → AllPairs (λ l m. l ≢ m) xs
pairs-differ [] h i j d lt within = absurd (omega (arith, within))
pairs-differ (x ∷ xs) h i zero d lt within = absurd (omega (arith, lt))
pairs-differ (x ∷ xs) h zero (suc j) d lt within = each-at (λ y. x ≢ y) xs j d h.0 (omega (arith, within))
pairs-differ (x ∷ xs) h (suc i) (suc j) d lt within = pairs-differ xs h.1 i j d (omega (arith, lt)) (omega (arith, within))

pub distinct-append : (xs ys : List ℕ) → Distinct xs → Distinct ys → Each (λ x. Each (λ y. x ≢ y) ys) xs → Distinct (xs ++ ys)
distinct-append [] ys h k apart = k
distinct-append (x ∷ xs) ys h k apart = (each-append (λ y. x ≢ y) xs ys h.0 apart.0, distinct-append xs ys h.1 k apart.1)

-- ---- ranges

pub range-from : (start count : ℕ) → Each (λ l. (start ≤ l) × (l < start + count)) (range_with_len start count)
range-from start zero = tt
range-from start (suc n) = (
  (omega arith, omega arith),
  each-weaker (λ l. (start + 1 ≤ l) × (l < start + 1 + n)) (λ l. (start ≤ l) × (l < start + suc n)) (range_with_len (start + 1) n)
      (λ l h. let a = h.0 in let b = h.1 in (omega (arith, a), omega (arith, b)))
      (range-from (start + 1) n),
)

pub range-distinct : (start count : ℕ) → Distinct (range_with_len start count)
range-distinct start zero = tt
range-distinct start (suc n) = (
  each-weaker (λ l. (start + 1 ≤ l) × (l < start + 1 + n)) (λ l. start ≢ l) (range_with_len (start + 1) n)
      (λ l h e. let a = h.0 in omega (arith, a, e))
      (range-from (start + 1) n),
  range-distinct (start + 1) n,
)

-- ---- what a list has

pub has-first : (x : ℕ) (xs : List ℕ) → Contains (x ∷ xs) x
has-first x xs = (0, omega arith, refl)

pub has-later : (x y : ℕ) (xs : List ℕ) → Contains xs y → Contains (x ∷ xs) y
has-later x y xs h = let lt = h.1 in (suc h.0, omega (arith, lt), h.2)

pub has-left : (xs ys : List ℕ) (y : ℕ) → Contains xs y → Contains (xs ++ ys) y
has-left [] ys y h = let lt = h.1 in absurd (omega (arith, lt))
has-left (x ∷ xs) ys y h = by_place h.0 h.1 h.2
  where
    by_place : (k : ℕ) → k < length (x ∷ xs) → get_or (x ∷ xs) k y ≡ y → Contains ((x ∷ xs) ++ ys) y
    by_place zero lt e = (0, omega arith, e)
    by_place (suc k) lt e = has-later x y (xs ++ ys) (left xs k (omega (arith, lt)) e)
      where
        left : (zs : List ℕ) (k : ℕ) → k < length zs → get_or zs k y ≡ y → Contains (zs ++ ys) y
        left [] k lt e = absurd (omega (arith, lt))
        left (z ∷ zs) zero lt e = (0, omega arith, e)
        left (z ∷ zs) (suc k) lt e = has-later z y (zs ++ ys) (left zs k (omega (arith, lt)) e)

pub has-right : (xs ys : List ℕ) (y : ℕ) → Contains ys y → Contains (xs ++ ys) y
has-right [] ys y h = h
has-right (x ∷ xs) ys y h = has-later x y (xs ++ ys) (has-right xs ys y h)

pub range-has : (start count l : ℕ) → start ≤ l → l < start + count → Contains (range_with_len start count) l
range-has start zero l low high = absurd (omega (arith, low, high))
range-has start (suc n) l low high = ⊎_elim
    (λ lt. has-later start l (range_with_len (start + 1) n) (range-has (start + 1) n l (omega (arith, lt)) (omega (arith, high))))
    (λ le. (0, omega arith, omega (arith, low, le)))
    (cases_lt start l)

-- ---- tests of lists that are written down

abbrev pub is_among : List ℕ → ℕ → Bool
is_among xs l = list_any (λ x. x == l) xs

pub among-has : (xs : List ℕ) (l : ℕ) → is_among xs l ≡ true → Contains xs l
among-has [] l e = absurd (cc)
among-has (x ∷ xs) l e = ⊎_elim
    (λ is. (0, omega arith, eqb-true x l is))
    (λ later. has-later x l xs (among-has xs l later))
    (or_cases (x == l) (is_among xs l) e)

abbrev pub are_distinct : List ℕ → Bool
are_distinct [] = true
are_distinct (x ∷ xs) = list_all (λ y. not (x == y)) xs && are_distinct xs

other : (x : ℕ) (xs : List ℕ) → list_all (λ y. not (x == y)) xs ≡ true → Each (λ y. x ≢ y) xs
other x [] e = tt
other x (y ∷ ys) e =
    let both = and_parts (not (x == y)) (list_all (λ z. not (x == z)) ys) e in
    ((λ same. clash (x == y) (eq-eqb x y same) both.0), other x ys both.1)
  where
    clash : (b : Bool) → b ≡ true → not b ≡ true → ⊥
    clash true a n = cc
    clash false a n = cc

pub test-distinct : (xs : List ℕ) → are_distinct xs ≡ true → Distinct xs
test-distinct [] e = tt
test-distinct (x ∷ xs) e =
    let both = and_parts (list_all (λ y. not (x == y)) xs) (are_distinct xs) e in
    (other x xs both.0, test-distinct xs both.1)
