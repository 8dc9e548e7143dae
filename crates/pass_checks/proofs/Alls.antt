-- What holds of each element, as far as a loop over them has come.
use Rattle.std.proofs.Common.{◌≡◌, ℕ, suc, zero, ◌+◌, ◌-◌, ◌<◌, ◌≤◌, List, [], ◌∷◌, ◌++◌, length, take, get_or, All, arith, refl, ap, ◌∙◌, subst, sym, length-append, Some, None, slice_get}
use Rattle.std.proofs.lemmas.List.{take_all}
use Rattle.std.proofs.lemmas.List.Elements.{All-more, All-cons}
use Rattle.pass_core.specs.Functions.{front_of}
use Rattle.bk_ilist.specs.Listing.{items}
use Rattle.std.proofs.lemmas.Option.{slice_get_within, get_or_from_slice_get, none-some}

module _ {A : Type 0} (P : A → Type 0) where
  pub all_more : (xs : List A) (i : ℕ) (x : A) → i < length xs → x ≡ get_or xs i x → All P (take i xs) → P x → All P (take (i + 1) xs)
  all_more xs i x within is all holds = All-more P xs i x within all (subst P is holds)

  pub all_done : (xs : List A) (i : ℕ) → length xs ≤ i → All P (take i xs) → All P xs
  all_done xs i past all = subst (All P) (take_all i xs past) all

  -- the same where the elements are asked for one by one
  pub all_found : (xs : List A) (i : ℕ) (x : A) → slice_get xs i ≡ Some x → All P (take i xs) → P x → All P (take (i + 1) xs)
  all_found xs i x found all holds =
      All-more P xs i x (slice_get_within xs i x found) all (subst P (sym (get_or_from_slice_get xs i x x found)) holds)

  pub all_past : (xs : List A) (i : ℕ) → slice_get xs i ≡ None → All P (take i xs) → All P xs
  all_past xs i none all = subst (All P) (take_all i xs (past xs i none)) all
    where
      past : (xs : List A) (i : ℕ) → slice_get xs i ≡ None → length xs ≤ i
      past [] i none = omega arith
      past (x ∷ xs) zero none = absurd (none-some x (sym none))
      past (x ∷ xs) (suc i) none = let rest = past xs i none in omega arith

-- all but the last element
module _ {A : Type 0} where
  take_front : (front : List A) (x : A) → take (length front) (front ++ x ∷ []) ≡ front
  take_front [] x = refl
  take_front (y ∷ ys) x = ap (λ zs. y ∷ zs) (take_front ys x)

  pub front_is : (xs front : List A) (x : A) → xs ≡ front ++ x ∷ [] → front_of xs ≡ front
  front_is xs front x is =
      let count : length (front ++ x ∷ []) - 1 ≡ length front = omega (arith, length-append front (x ∷ [])) in
      ap front_of is ∙ ap (λ n. take n (front ++ x ∷ [])) count ∙ take_front front x

-- of the elements that are left in a list with ids
module _ {A : Type 0} (P : A → Type 0) where
  pub all_left : (id : ℕ) (x : A) (rest pairs : List (ℕ × A)) → pairs ≡ (id, x) ∷ rest → P x → All P (items rest) → All P (items pairs)
  all_left id x rest pairs is holds all = subst (λ ps. All P (items ps)) (sym is) (All-cons P x (items rest) holds all)

-- a list without a first element has none
pub none_first : {A : Type 0} (xs : List A) → slice_get xs 0 ≡ None → length xs ≡ 0
none_first [] none = refl
none_first (x ∷ xs) none = absurd (none-some x (sym none))
