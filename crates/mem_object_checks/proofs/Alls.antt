-- What holds of each element, as far as a loop over them has come.
use Rattle.std.proofs.Common.{◌≡◌, ℕ, ◌+◌, ◌<◌, ◌≤◌, List, length, take, get_or, All, subst}
use Rattle.std.proofs.lemmas.List.{take_all}
use Rattle.std.proofs.lemmas.List.Elements.{All-more}

module _ {A : Type 0} (P : A → Type 0) where
  pub all_more : (xs : List A) (i : ℕ) (x : A) → i < length xs → x ≡ get_or xs i x → All P (take i xs) → P x → All P (take (i + 1) xs)
  all_more xs i x within is all holds = All-more P xs i x within all (subst P is holds)

  pub all_done : (xs : List A) (i : ℕ) → length xs ≤ i → All P (take i xs) → All P xs
  all_done xs i past all = subst (All P) (take_all i xs past) all
