-- Places in lists that are joined.
use Rattle.std.proofs.Common.{◌≡◌, ℕ, zero, suc, ◌+◌, ◌-◌, ◌<◌, ◌≤◌, Bool, true, false, not, cond, List, [], ◌∷◌, ◌++◌, length, take, drop, refl, sym, ap, ◌∙◌, arith}
use Rattle.std.specs.Prelude.{slice_index_or}
use Rattle.std.specs.List.{position_or_len}

pub index-first : {X : Type 0} (xs ys : List X) (k : ℕ) (d : X) → k < length xs → slice_index_or (xs ++ ys) k d ≡ slice_index_or xs k d
index-first [] ys k d lt = absurd (omega (arith, lt))
index-first (x ∷ xs) ys zero d lt = refl
index-first (x ∷ xs) ys (suc k) d lt = index-first xs ys k d (omega (arith, lt))

pub index-second : {X : Type 0} (xs ys : List X) (k : ℕ) (d : X) → length xs ≤ k → slice_index_or (xs ++ ys) k d ≡ slice_index_or ys (k - length xs) d
index-second [] ys k d le = let e : k ≡ k - 0 = omega arith in ap (λ n. slice_index_or ys n d) e
index-second (x ∷ xs) ys zero d le = absurd (omega (arith, le))
index-second (x ∷ xs) ys (suc k) d le = index-second xs ys k d (omega (arith, le)) ∙ (let e : k - length xs ≡ suc k - suc (length xs) = omega arith in ap (λ n. slice_index_or ys n d) e)

pub index-take : {X : Type 0} (n : ℕ) (xs : List X) (k : ℕ) (d : X) → k < n → slice_index_or (take n xs) k d ≡ slice_index_or xs k d
index-take zero xs k d lt = absurd (omega (arith, lt))
index-take (suc n) [] k d lt = refl
index-take (suc n) (x ∷ xs) zero d lt = refl
index-take (suc n) (x ∷ xs) (suc k) d lt = index-take n xs k d (omega (arith, lt))

pub index-drop : {X : Type 0} (n : ℕ) (xs : List X) (k : ℕ) (d : X) → slice_index_or (drop n xs) k d ≡ slice_index_or xs (n + k) d
index-drop zero xs k d = let e : k ≡ 0 + k = omega arith in ap (λ n. slice_index_or xs n d) e
index-drop (suc n) [] k d = refl
index-drop (suc n) (x ∷ xs) k d = index-drop n xs k d ∙ (let e : suc (n + k) ≡ suc n + k = omega arith in ap (λ m. slice_index_or (x ∷ xs) m d) e)

pub take-size : {X : Type 0} (n : ℕ) (xs : List X) → n ≤ length xs → length (take n xs) ≡ n
take-size zero xs le = refl
take-size (suc n) [] le = absurd (omega (arith, le))
take-size (suc n) (x ∷ xs) le = ap suc (take-size n xs (omega (arith, le)))

pub drop-size : {X : Type 0} (n : ℕ) (xs : List X) → length (drop n xs) ≡ length xs - n
drop-size zero xs = let e : length xs ≡ length xs - 0 = omega arith in e
drop-size (suc n) [] = let e : 0 ≡ 0 - suc n = omega arith in e
drop-size (suc n) (x ∷ xs) = drop-size n xs ∙ (let e : length xs - n ≡ suc (length xs) - suc n = omega arith in e)

pub append-size : {X : Type 0} (xs ys : List X) → length (xs ++ ys) ≡ length xs + length ys
append-size [] ys = let e : length ys ≡ 0 + length ys = omega arith in e
append-size (x ∷ xs) ys = let h = append-size xs ys in let e : suc (length xs + length ys) ≡ suc (length xs) + length ys = omega arith in ap suc h ∙ e

-- where the first that passes a test stands
pub position-second : {X : Type 0} (p : X → Bool) (xs ys : List X) → ((k : ℕ) (d : X) → k < length xs → p (slice_index_or xs k d) ≡ false) → position_or_len p (xs ++ ys) ≡ length xs + position_or_len p ys
position-second p [] ys h = let e : position_or_len p ys ≡ 0 + position_or_len p ys = omega arith in e
position-second p (x ∷ xs) ys h =
    let rest = position-second p xs ys (λ k d lt. h (suc k) d (omega (arith, lt))) in
    let count : 1 + position_or_len p (xs ++ ys) ≡ suc (length xs) + position_or_len p ys = omega (arith, rest) in
    ap (λ t. cond (not t) (1 + position_or_len p (xs ++ ys)) 0) (h 0 x (omega arith)) ∙ count

pub position-first : {X : Type 0} (p : X → Bool) (xs ys : List X) → position_or_len p xs < length xs → position_or_len p (xs ++ ys) ≡ position_or_len p xs
position-first p [] ys lt = absurd (omega (arith, lt))
position-first p (x ∷ xs) ys lt = by_test (position-first p xs ys) (p x) refl
  where
    by_test : (position_or_len p xs < length xs → position_or_len p (xs ++ ys) ≡ position_or_len p xs) → (t : Bool) → p x ≡ t → position_or_len p ((x ∷ xs) ++ ys) ≡ position_or_len p (x ∷ xs)
    by_test ih true e = ap (λ t. cond (not t) (1 + position_or_len p (xs ++ ys)) 0) e ∙ sym (ap (λ t. cond (not t) (1 + position_or_len p xs) 0) e)
    by_test ih false e =
        let here : position_or_len p (x ∷ xs) ≡ 1 + position_or_len p xs = ap (λ t. cond (not t) (1 + position_or_len p xs) 0) e in
        let below : position_or_len p xs < length xs = omega (arith, lt, here) in
        ap (λ t. cond (not t) (1 + position_or_len p (xs ++ ys)) 0) e ∙ ap (λ n. 1 + n) (ih below) ∙ sym here
