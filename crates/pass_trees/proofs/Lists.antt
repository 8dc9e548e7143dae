-- Lists of which one element is set.
use Rattle.std.proofs.Common.{◌≡◌, ℕ, zero, suc, ◌≤◌, List, [], ◌∷◌, length, map, drop, Some, refl, ap, arith}
use Rattle.std.specs.Prelude.{slice_get, slice_set}

module _ {A B : Type 0} (f g : A → B) where
  pub same_map : (xs : List A) → ((k : ℕ) (x : A) → slice_get xs k ≡ Some x → f x ≡ g x) → map f xs ≡ map g xs
  same_map [] h = refl
  same_map (x ∷ xs) h =
      let first : f x ≡ g x = h zero x refl in
      let others : map f xs ≡ map g xs = same_map xs (λ k y e. h (suc k) y e) in
      cc

module _ {A : Type 0} where
  -- an element is the first of what is left
  pub drop_here : (xs : List A) (k : ℕ) (x : A) → slice_get xs k ≡ Some x → drop k xs ≡ x ∷ drop (suc k) xs
  drop_here [] k x h = cc
  drop_here (y ∷ ys) zero x h = let same : y ≡ x = cc in ap (λ v. v ∷ ys) same
  drop_here (y ∷ ys) (suc k) x h = drop_here ys k x h

  pub drop_all : (xs : List A) (k : ℕ) → length xs ≤ k → drop k xs ≡ []
  drop_all [] zero h = refl
  drop_all [] (suc k) h = refl
  drop_all (x ∷ xs) zero h = absurd (omega arith)
  drop_all (x ∷ xs) (suc k) h = drop_all xs k (omega arith)

  -- what stands behind stays
  pub set_before : (xs : List A) (k j : ℕ) (x : A) → suc k ≤ j → slice_get (slice_set xs k x) j ≡ slice_get xs j
  set_before [] k j x h = refl
  set_before (y ∷ ys) k zero x h = absurd (omega arith)
  set_before (y ∷ ys) zero (suc j) x h = refl
  set_before (y ∷ ys) (suc k) (suc j) x h = set_before ys k j x (omega arith)

  pub first_of_rest : (xs : List A) (k : ℕ) (x : A) (ys : List A) → drop k xs ≡ x ∷ ys → slice_get xs k ≡ Some x
  first_of_rest [] zero x ys e = cc
  first_of_rest [] (suc k) x ys e = cc
  first_of_rest (z ∷ zs) zero x ys e = let same : z ≡ x = cc in ap Some same
  first_of_rest (z ∷ zs) (suc k) x ys e = first_of_rest zs k x ys e

  pub next_rest : (xs : List A) (k : ℕ) (x : A) (ys : List A) → drop k xs ≡ x ∷ ys → drop (suc k) xs ≡ ys
  next_rest [] zero x ys e = cc
  next_rest [] (suc k) x ys e = cc
  next_rest (z ∷ zs) zero x ys e = let same : zs ≡ ys = cc in same
  next_rest (z ∷ zs) (suc k) x ys e = next_rest zs k x ys e
