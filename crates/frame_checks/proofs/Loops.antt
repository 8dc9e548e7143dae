-- A test of all elements, by those that are left.
use Rattle.std.proofs.Common.{◌≡◌, ℕ, ◌+◌, ◌<◌, ◌≤◌, Bool, true, false, List, ◌∷◌, sym, ap, ◌∙◌, length, drop, get_or}
use Rattle.std.specs.Prelude.{◌&&◌}
use Rattle.std.specs.List.{list_all}
use Rattle.std.proofs.lemmas.List.{at_drop_more, at_drop_all}
use Rattle.bk_ilist.specs.Listing.{items}

module _ {A : Type 0} (p : A → Bool) (xs : List A) (i : ℕ) (x : A) (is : x ≡ get_or xs i x) (within : i < length xs) where
  all_here : list_all p (drop i xs) ≡ (p x && list_all p (drop (i + 1) xs))
  all_here = at_drop_more (list_all p) xs i x within ∙ ap (λ y. p y && list_all p (drop (i + 1) xs)) (sym is)

  pub all_next : p x ≡ true → list_all p (drop i xs) ≡ list_all p (drop (i + 1) xs)
  all_next e = all_here ∙ ap (λ b. b && list_all p (drop (i + 1) xs)) e

  pub all_wrong : p x ≡ false → list_all p (drop i xs) ≡ false
  all_wrong e = all_here ∙ ap (λ b. b && list_all p (drop (i + 1) xs)) e

pub all_end : {A : Type 0} (p : A → Bool) (xs : List A) (i : ℕ) → length xs ≤ i → list_all p (drop i xs) ≡ true
all_end p xs i past = at_drop_all (list_all p) xs i past

-- of a list with ids
module _ {A : Type 0} (p : A → Bool) (rest all : List (ℕ × A)) (id : ℕ) (x : A) (is : all ≡ (id, x) ∷ rest) where
  insns_here : list_all p (items all) ≡ (p x && list_all p (items rest))
  insns_here = ap (λ pairs. list_all p (items pairs)) is

  pub insns_next : p x ≡ true → list_all p (items all) ≡ list_all p (items rest)
  insns_next e = insns_here ∙ ap (λ b. b && list_all p (items rest)) e

  pub insns_wrong : p x ≡ false → list_all p (items all) ≡ false
  insns_wrong e = insns_here ∙ ap (λ b. b && list_all p (items rest)) e
