-- What stands in lists at a number.
use Rattle.std.proofs.Common.{◌≡◌, ℕ, zero, suc, ◌<◌, List, [], ◌∷◌, Some, length, map, refl, ap, subst, arith}
use Rattle.std.specs.Prelude.{slice_get, All}
use Rattle.std.proofs.lemmas.List.Elements.{All-head, All-tail}

pub all-get : {X : Type 0} (P : X → Type 0) (xs : List X) (k : ℕ) (x : X) → All P xs → slice_get xs k ≡ Some x → P x
all-get P [] k x h e = absurd (cc)
all-get P (y ∷ xs) zero x h e = let is : y ≡ x = cc in subst P is (All-head P y xs h)
all-get P (y ∷ xs) (suc k) x h e = all-get P xs k x (All-tail P y xs h) e

pub get-map : {X Y : Type 0} (f : X → Y) (xs : List X) (k : ℕ) (x : X) → slice_get xs k ≡ Some x → slice_get (map f xs) k ≡ Some (f x)
get-map f [] k x e = absurd (cc)
get-map f (y ∷ xs) zero x e = let is : y ≡ x = cc in ap (λ z. Some (f z)) is
get-map f (y ∷ xs) (suc k) x e = get-map f xs k x e

-- what stands in a map stands in the list
pub record MappedFrom {X Y : Type 0} (f : X → Y) (xs : List X) (k : ℕ) (y : Y) : Type 0 where
  pub one : X
  pub there : slice_get xs k ≡ Some one
  pub is : f one ≡ y

pub mapped_from : {X Y : Type 0} (f : X → Y) (xs : List X) (k : ℕ) (y : Y) → slice_get (map f xs) k ≡ Some y → MappedFrom f xs k y
mapped_from f [] k y e = absurd (cc)
mapped_from f (x ∷ xs) zero y e = let is : f x ≡ y = cc in record { one = x; there = refl; is = is }
mapped_from f (x ∷ xs) (suc k) y e = let h = mapped_from f xs k y e in record { one = h.one; there = h.there; is = h.is }

pub map-size : {X Y : Type 0} (f : X → Y) (xs : List X) → length (map f xs) ≡ length xs
map-size f [] = refl
map-size f (x ∷ xs) = ap suc (map-size f xs)

pub get-below : {X : Type 0} (xs : List X) (k : ℕ) (x : X) → slice_get xs k ≡ Some x → k < length xs
get-below [] k x e = absurd (cc)
get-below (y ∷ xs) zero x e = omega arith
get-below (y ∷ xs) (suc k) x e = let h = get-below xs k x e in omega (arith, h)
