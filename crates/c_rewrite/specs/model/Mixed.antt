-- Lists of which the first elements have been replaced, one by one.
use Rattle.std.proofs.Common.{◌≡◌, ℕ, zero, suc, ◌+◌, ◌<◌, ◌≤◌, List, [], ◌∷◌, length, Some, refl, ap, subst, sym, ◌∙◌, add-one, arith}
use Rattle.std.specs.Prelude.{slice_get, slice_set, slice_index_or}
use Rattle.std.proofs.lemmas.Option.{slice_get-get_or}
use Rattle.std.specs.List.{AllZip}

module _ {A B : Type 0} (P : A → B → Type 0) (keep : A → B → Type 0) where
  -- those below a number stand in the relation to what stood there, the others are as they were
  abbrev pub Mixed : ℕ → List A → List B → Type 0
  Mixed i [] [] = Unit {0}
  Mixed i [] (y ∷ ys) = ⊥
  Mixed i (x ∷ xs) [] = ⊥
  Mixed zero (x ∷ xs) (y ∷ ys) = keep x y × Mixed zero xs ys
  Mixed (suc i) (x ∷ xs) (y ∷ ys) = P x y × Mixed i xs ys

-- setting twice is setting once
pub set_twice : {A : Type 0} (xs : List A) (k : ℕ) (x y : A) → slice_set (slice_set xs k x) k y ≡ slice_set xs k y
set_twice [] k x y = refl
set_twice (z ∷ zs) zero x y = refl
set_twice (z ∷ zs) (suc k) x y = ap (λ l. z ∷ l) (set_twice zs k x y)

-- what is replaced is of the type of what stood there
module _ {A : Type 0} (P : A → A → Type 0) where
  abbrev pub Replaced : ℕ → List A → List A → Type 0
  Replaced i xs ys = Mixed P (λ x y. x ≡ y) i xs ys

  pub none_replaced : (xs : List A) → Replaced 0 xs xs
  none_replaced [] = tt
  none_replaced (x ∷ xs) = (refl, none_replaced xs)

  pub as_many : (i : ℕ) (xs ys : List A) → Replaced i xs ys → length ys ≡ length xs
  as_many i [] [] h = refl
  as_many i [] (y ∷ ys) h = absurd h
  as_many i (x ∷ xs) [] h = absurd h
  as_many zero (x ∷ xs) (y ∷ ys) h = ap suc (as_many zero xs ys h.1)
  as_many (suc i) (x ∷ xs) (y ∷ ys) h = ap suc (as_many i xs ys h.1)

  -- what has not been replaced yet
  pub still_there : (i k : ℕ) (xs ys : List A) → Replaced i xs ys → i ≤ k → slice_get ys k ≡ slice_get xs k
  still_there i k [] [] h p = refl
  still_there i k [] (y ∷ ys) h p = absurd h
  still_there i k (x ∷ xs) [] h p = absurd h
  still_there zero zero (x ∷ xs) (y ∷ ys) h p = ap Some (sym h.0)
  still_there zero (suc k) (x ∷ xs) (y ∷ ys) h p = still_there zero k xs ys h.1 (omega arith)
  still_there (suc i) zero (x ∷ xs) (y ∷ ys) h p = absurd (omega arith)
  still_there (suc i) (suc k) (x ∷ xs) (y ∷ ys) h p = still_there i k xs ys h.1 (omega arith)

  pub one_replaced : (i : ℕ) (xs ys : List A) (x z : A) → Replaced i xs ys → slice_get xs i ≡ Some x → P x z → Replaced (suc i) xs (slice_set ys i z)
  one_replaced i [] [] x z h is p = cc
  one_replaced i [] (y ∷ ys) x z h is p = absurd h
  one_replaced i (v ∷ xs) [] x z h is p = absurd h
  one_replaced zero (v ∷ xs) (y ∷ ys) x z h is p = let same : x ≡ v = cc in (subst (λ w. P w z) same p, h.1)
  one_replaced (suc i) (v ∷ xs) (y ∷ ys) x z h is p = (h.0, one_replaced i xs ys x z h.1 is p)

  pub all_replaced : (i : ℕ) (xs ys : List A) → Replaced i xs ys → length xs ≤ i → AllZip P xs ys
  all_replaced i [] [] h p = tt
  all_replaced i [] (y ∷ ys) h p = absurd h
  all_replaced i (x ∷ xs) [] h p = absurd h
  all_replaced zero (x ∷ xs) (y ∷ ys) h p = absurd (omega arith)
  all_replaced (suc i) (x ∷ xs) (y ∷ ys) h p = (h.0, all_replaced i xs ys h.1 (omega arith))

  -- ---- a turn of a loop that takes an element out and puts another one in its place

  pub start_replaced : (xs ys : List A) → ys ≡ xs → Replaced 0 xs ys
  start_replaced xs ys e = subst (Replaced 0 xs) (sym e) (none_replaced xs)

  pub taken_out : (i : ℕ) (xs ys : List A) (slot old : A) → Replaced i xs ys → i < length xs → slot ≡ slice_index_or ys i slot → old ≡ slot
      → slice_get xs i ≡ Some old
  taken_out i xs ys slot old so within is same =
      let many : length ys ≡ length xs = as_many i xs ys so in
      sym (still_there i i xs ys so (omega arith)) ∙ slice_get-get_or ys i slot (omega arith) ∙ ap Some (sym is) ∙ ap Some (sym same)

  pub turned_once : (i : ℕ) (xs ys : List A) (slot old empty made put : A) → Replaced i xs ys → i < length xs → slot ≡ slice_index_or ys i slot → old ≡ slot
      → P old made → put ≡ made → Replaced (i + 1) xs (slice_set (slice_set ys i empty) i put)
  turned_once i xs ys slot old empty made put so within is same done e =
      let here = taken_out i xs ys slot old so within is same in
      subst (λ k. Replaced k xs (slice_set (slice_set ys i empty) i put)) (sym (add-one i))
      (subst (λ l. Replaced (suc i) xs l) (sym (set_twice ys i empty put))
      (one_replaced i xs ys old put so here (subst (P old) (sym e) done)))
