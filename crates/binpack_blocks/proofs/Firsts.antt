-- The first element that passes a test.
use Rattle.std.proofs.Common.{◌≡◌, ℕ, zero, suc, ◌<◌, ◌≤◌, List, [], ◌∷◌, Bool, true, false, cond, Option, Some, None, refl, sym, ap, ◌∙◌, find, length, get_or, arith}
use Rattle.std.specs.Prelude.{slice_get}
use Rattle.std.proofs.lemmas.Option.{same_Some, slice_get_past, get_or_from_slice_get, slice_get_within}
use Rattle.std.specs.List.Sorted.{IsPartitionPoint}

pub first_found : {A : Type 0} (p : A → Bool) (xs : List A) (i : ℕ) (x : A) → ((k : ℕ) (y : A) → k < i → slice_get xs k ≡ Some y → p y ≡ false) → slice_get xs i ≡ Some x → p x ≡ true → find p xs ≡ Some x
first_found p [] i x before is found = is
first_found p (y ∷ xs) zero x before is found = ap (λ b. cond b (Some y) (find p xs)) (ap p (same_Some y x is) ∙ found) ∙ is
first_found p (y ∷ xs) (suc i) x before is found =
    ap (λ b. cond b (Some y) (find p xs)) (before 0 y (omega arith) refl)
    ∙ first_found p xs i x (λ k z w e. before (suc k) z (omega (arith, w)) e) is found

pub none_found : {A : Type 0} (p : A → Bool) (xs : List A) → ((k : ℕ) (y : A) → slice_get xs k ≡ Some y → p y ≡ false) → find p xs ≡ None
none_found p [] none = refl
none_found p (y ∷ xs) none = ap (λ b. cond b (Some y) (find p xs)) (none 0 y refl) ∙ none_found p xs (λ k z e. none (suc k) z e)

-- what stands at a partition point is the first that the test refuses
module _ {A : Type 0} (p q : A → Bool) (other : (x : A) → p x ≡ true → q x ≡ false) (same : (x : A) → p x ≡ false → q x ≡ true) (xs : List A) (i : ℕ) (point : IsPartitionPoint (λ x. p x ≡ true) (λ x. p x ≡ false) xs i) where
  passes : (k : ℕ) (y : A) → k < i → slice_get xs k ≡ Some y → q y ≡ false
  passes k y w e = other y (ap p (sym (get_or_from_slice_get xs k y y e)) ∙ point.0 k y (omega arith) w)

  pub parted_at : (x : A) → slice_get xs i ≡ Some x → find q xs ≡ Some x
  parted_at x e = first_found q xs i x passes e (same x (ap p (sym (get_or_from_slice_get xs i x x e)) ∙ point.1 i x (omega arith) (slice_get_within xs i x e)))

  pub parted_past : length xs ≤ i → find q xs ≡ None
  parted_past past = none_found q xs (λ k y e. passes k y (let w = slice_get_within xs k y e in omega (arith, w, past)) e)
