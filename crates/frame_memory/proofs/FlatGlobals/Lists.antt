-- What stands in lists at a number.
use Rattle.std.proofs.Common.{◌≡◌, ℕ, zero, suc, ◌+◌, ◌-◌, ◌<◌, ◌≤◌, List, [], ◌∷◌, ◌++◌, Some, length, map, replicate, refl, ap, ◌∙◌, arith}
use Rattle.std.specs.Prelude.{slice_get, slice_index, slice_index_or}
use Rattle.mem_model.specs.Bytes.{AreBytes}

pub get-below : {X : Type 0} (xs : List X) (k : ℕ) (x : X) → slice_get xs k ≡ Some x → k < length xs
get-below [] k x e = absurd (cc)
get-below (y ∷ xs) zero x e = omega arith
get-below (y ∷ xs) (suc k) x e = let h = get-below xs k x e in omega (arith, h)

pub record HasItemAt {X : Type 0} (xs : List X) (k : ℕ) : Type 0 where
  pub one : X
  pub is : slice_get xs k ≡ Some one

pub stands-at : {X : Type 0} (xs : List X) (k : ℕ) → k < length xs → HasItemAt xs k
stands-at [] k lt = absurd (omega (arith, lt))
stands-at (x ∷ xs) zero lt = record { one = x; is = refl }
stands-at (x ∷ xs) (suc k) lt = let h = stands-at xs k (omega (arith, lt)) in record { one = h.one; is = h.is }

pub get-index : {X : Type 0} (xs : List X) (k : ℕ) (x d : X) → slice_get xs k ≡ Some x → slice_index_or xs k d ≡ x
get-index [] k x d e = absurd (cc)
get-index (y ∷ xs) zero x d e = cc
get-index (y ∷ xs) (suc k) x d e = get-index xs k x d e

pub get-map : {X Y : Type 0} (f : X → Y) (xs : List X) (k : ℕ) (x : X) → slice_get xs k ≡ Some x → slice_get (map f xs) k ≡ Some (f x)
get-map f [] k x e = absurd (cc)
get-map f (y ∷ xs) zero x e = let is : y ≡ x = cc in ap (λ z. Some (f z)) is
get-map f (y ∷ xs) (suc k) x e = get-map f xs k x e

pub map-size : {X Y : Type 0} (f : X → Y) (xs : List X) → length (map f xs) ≡ length xs
map-size f [] = refl
map-size f (x ∷ xs) = ap suc (map-size f xs)

pub replicate-size : {X : Type 0} (n : ℕ) (x : X) → length (replicate n x) ≡ n
replicate-size zero x = refl
replicate-size (suc n) x = ap suc (replicate-size n x)

pub append-size : {X : Type 0} (xs ys : List X) → length (xs ++ ys) ≡ length xs + length ys
append-size [] ys = let e : length ys ≡ 0 + length ys = omega arith in e
append-size (x ∷ xs) ys = let h = append-size xs ys in let e : suc (length xs + length ys) ≡ suc (length xs) + length ys = omega arith in ap suc h ∙ e

-- what stands in the first or the second of two lists
pub get-first : {X : Type 0} (xs ys : List X) (k : ℕ) → k < length xs → slice_get (xs ++ ys) k ≡ slice_get xs k
get-first [] ys k lt = absurd (omega (arith, lt))
get-first (x ∷ xs) ys zero lt = refl
get-first (x ∷ xs) ys (suc k) lt = get-first xs ys k (omega (arith, lt))

pub get-second : {X : Type 0} (xs ys : List X) (k : ℕ) → length xs ≤ k → slice_get (xs ++ ys) k ≡ slice_get ys (k - length xs)
get-second [] ys k le = let e : k ≡ k - 0 = omega arith in ap (slice_get ys) e
get-second (x ∷ xs) ys zero le = absurd (omega (arith, le))
get-second (x ∷ xs) ys (suc k) le = get-second xs ys k (omega (arith, le)) ∙ (let e : k - length xs ≡ suc k - suc (length xs) = omega arith in ap (slice_get ys) e)

pub get-same : {X : Type 0} (n : ℕ) (x y : X) (k : ℕ) → slice_get (replicate n x) k ≡ Some y → y ≡ x
get-same zero x y k e = absurd (cc)
get-same (suc n) x y zero e = cc
get-same (suc n) x y (suc k) e = get-same n x y k e

-- bytes are below 256, and 0 where there is none
pub byte-small : (bytes : List ℕ) (k : ℕ) → AreBytes bytes → slice_index bytes k < 256
byte-small [] k h = omega arith
byte-small (x ∷ bytes) zero h = h.0
byte-small (x ∷ bytes) (suc k) h = byte-small bytes k h.1
