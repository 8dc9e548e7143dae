-- Two lists of sets that say the same are the same.
use Rattle.std.proofs.Common.{◌≡◌, ℕ, ◌+◌, ◌<◌, Bool, true, false, List, [], ◌∷◌, ◌++◌, refl, sym, ap, ◌∙◌, length, replicate, arith}
use Rattle.std.specs.Prelude.{slice_index_or}
use Rattle.std.proofs.lemmas.List.{ext_get_or, replicate_more}
use Rattle.std.proofs.lemmas.List.Elements.{All-get_or}
use Rattle.bk_bits.specs.Sets.{has}
use Rattle.alloc_model.specs.Places.{Plan}
use Rattle.alloc_rules.specs.Scan.{AreSets}

pub one_more : (sets : List (List Bool)) (count bound : ℕ) → sets ≡ replicate count (replicate bound false) →
    sets ++ replicate bound false ∷ [] ≡ replicate (count + 1) (replicate bound false)
one_more sets count bound e = ap (λ s. s ++ replicate bound false ∷ []) e ∙ replicate_more count (replicate bound false)

pub same_bool : (x y : Bool) → (x ≡ true → y ≡ true) → (y ≡ true → x ≡ true) → x ≡ y
same_bool true y there back = sym (there refl)
same_bool false true there back = back refl
same_bool false false there back = refl

module _ {a : Plan} {IsSo : (t block : ℕ) → Type 0} (xs ys : List (List Bool)) (are : AreSets a IsSo xs) (others : AreSets a IsSo ys) where
  there : (t block : ℕ) → has (slice_index_or xs block []) t ≡ true → has (slice_index_or ys block []) t ≡ true
  there t block e = (others.members t block).1 ((are.members t block).0 e)

  back : (t block : ℕ) → has (slice_index_or ys block []) t ≡ true → has (slice_index_or xs block []) t ≡ true
  back t block e = (are.members t block).1 ((others.members t block).0 e)

  as_many : length xs ≡ length ys
  as_many = are.as_many ∙ sym others.as_many

  same_set : (block : ℕ) → block < length xs → slice_index_or xs block [] ≡ slice_index_or ys block []
  same_set block within =
      ext_get_or false _ _ (All-get_or (λ s. length s ≡ a.temps) xs block [] within are.bounds ∙ sym (All-get_or (λ s. length s ≡ a.temps) ys block [] (omega (arith, within, as_many)) others.bounds))
      (λ t below. same_bool _ _ (there t block) (back t block))

  pub unique : xs ≡ ys
  unique = ext_get_or [] xs ys as_many same_set
