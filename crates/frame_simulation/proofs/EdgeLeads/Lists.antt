-- What lists have at a number, and what is found in them.
use Rattle.std.proofs.Common.{◌≡◌, ℕ, zero, suc, ◌<◌, Bool, false, List, [], ◌∷◌, Some, None, length, take, if◌then◌else◌, refl, ap, ◌∙◌, subst, arith}
use Rattle.std.specs.Prelude.{slice_get, slice_index_or, find, All}
use Rattle.std.proofs.lemmas.List.Elements.{All-head, All-tail}

pub get-below : {X : Type 0} (xs : List X) (k : ℕ) (x : X) → slice_get xs k ≡ Some x → k < length xs
get-below [] k x e = absurd (cc)
get-below (y ∷ xs) zero x e = omega arith
get-below (y ∷ xs) (suc k) x e = let h = get-below xs k x e in omega (arith, h)

pub get-index : {X : Type 0} (xs : List X) (k : ℕ) (x d : X) → slice_get xs k ≡ Some x → slice_index_or xs k d ≡ x
get-index [] k x d e = absurd (cc)
get-index (y ∷ xs) zero x d e = cc
get-index (y ∷ xs) (suc k) x d e = get-index xs k x d e

pub all-get : {X : Type 0} (P : X → Type 0) (xs : List X) (k : ℕ) (x : X) → All P xs → slice_get xs k ≡ Some x → P x
all-get P [] k x h e = absurd (cc)
all-get P (y ∷ xs) zero x h e = let is : y ≡ x = cc in subst P is (All-head P y xs h)
all-get P (y ∷ xs) (suc k) x h e = all-get P xs k x (All-tail P y xs h) e

pub get-front : {X : Type 0} (n : ℕ) (xs : List X) (k : ℕ) → k < n → slice_get (take n xs) k ≡ slice_get xs k
get-front zero xs k lt = absurd (omega (arith, lt))
get-front (suc n) [] k lt = refl
get-front (suc n) (x ∷ xs) zero lt = refl
get-front (suc n) (x ∷ xs) (suc k) lt = get-front n xs k (omega (arith, lt))

-- equal tests find the same, and a test that none passes finds nothing
pub find-same : {X : Type 0} (p q : X → Bool) (xs : List X) → All (λ x. p x ≡ q x) xs → find p xs ≡ find q xs
find-same p q [] h = refl
find-same p q (x ∷ xs) h =
    ap (λ t. if t then Some x else find p xs) (All-head (λ z. p z ≡ q z) x xs h)
    ∙ ap (λ o. if q x then Some x else o) (find-same p q xs (All-tail (λ z. p z ≡ q z) x xs h))

pub find-none : {X : Type 0} (p : X → Bool) (xs : List X) → All (λ x. p x ≡ false) xs → find p xs ≡ None
find-none p [] h = refl
find-none p (x ∷ xs) h =
    ap (λ t. if t then Some x else find p xs) (All-head (λ z. p z ≡ false) x xs h)
    ∙ find-none p xs (All-tail (λ z. p z ≡ false) x xs h)
