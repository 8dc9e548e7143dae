-- An instruction whose only target is changed, and a block whose last instruction is.
use Rattle.std.proofs.Common.{◌≡◌, ℕ, ◌-◌, ◌<◌, List, [], ◌∷◌, ◌++◌, map, length, Option, Some, None, refl, arith, sym, ap, subst, ◌∙◌, slice_index_or, append_assoc}
use Rattle.std.specs.Prelude.{All}
use Rattle.std.proofs.lemmas.Option.{slice_get_within, get_or_from_slice_get}
use Rattle.pass_core.specs.Functions.{last_of}
use Rattle.bk_ilist.specs.Listing.{items, last_id}
use Rattle.cfg.specs.Renumber.{with_targets}
use Rattle.cfg.proofs.Lists.{no_last}
use Rattle.cfg.proofs.Blocks.{never_none}
use Rattle.cfg_edges.specs.model.Split.{target_of, target_after, to_one}

module _ {I : Type 0} (targets : I → List ℕ) (with_target : I → ℕ → ℕ → I) where
  pub none_before : (i : I) → [] ≡ targets i → 0 ≡ target_of targets i
  none_before i is = ap (λ ts. slice_index_or ts 0 0) is

  pub one_before : (i : I) (old : ℕ) → old ∷ [] ≡ targets i → old ≡ target_of targets i
  one_before i old is = ap (λ ts. slice_index_or ts 0 0) is

  pub none_after : (to : ℕ) (i : I) → [] ≡ targets i → i ≡ to_one targets with_target to i
  none_after to i is = ap (λ ts. with_targets with_target i 0 (map (λ _. to) ts)) is

  pub one_after : (to : ℕ) (i new : I) (old : ℕ) → old ∷ [] ≡ targets i → new ≡ with_target i 0 to → new ≡ to_one targets with_target to i
  one_after to i new old is new_is = new_is ∙ ap (λ ts. with_targets with_target i 0 (map (λ _. to) ts)) is

  pub none_stays : (to : ℕ) (i : I) → length (targets i) ≡ 0 → to_one targets with_target to i ≡ i
  none_stays to i none = by_list (targets i) refl none
    where
      by_list : (ts : List ℕ) → ts ≡ targets i → length ts ≡ 0 → to_one targets with_target to i ≡ i
      by_list [] is zero_is = sym (none_after to i is)
      by_list (t ∷ ts) is zero_is = absurd (omega arith)

  -- a block without instructions
  pub no_target_after : (xs : List I) (pairs : List (ℕ × I)) → items pairs ≡ xs → None ≡ last_id pairs → 0 ≡ target_after targets (last_of xs)
  no_target_after xs pairs view none = sym (ap (λ ys. target_after targets (last_of ys)) (sym view) ∙ ap (target_after targets) (no_last pairs none))

  pub no_change : (change : I → I) (xs : List I) (pairs : List (ℕ × I)) → items pairs ≡ xs → None ≡ last_id pairs → xs ≡ map change xs
  no_change change xs [] view none = sym view ∙ ap (map change) view
  no_change change xs (p ∷ pairs) view none = absurd (never_none pairs p.0 none)

  -- the target of a block's last instruction is one of its targets, or 0
  target_below : (limit : ℕ) (ts : List ℕ) → All (λ target. target < limit) ts → 0 < limit → slice_index_or ts 0 0 < limit
  target_below limit [] all some = some
  target_below limit (t ∷ ts) all some = all 0 t (omega arith)

  pub last_below : (limit : ℕ) (xs : List I) → All (λ i. All (λ target. target < limit) (targets i)) xs → 0 < limit → target_after targets (last_of xs) < limit
  last_below limit xs all some = by (last_of xs) refl
    where
      by : (o : Option I) → last_of xs ≡ o → target_after targets o < limit
      by None is = some
      by (Some i) is =
          let k : ℕ = length xs - 1 in
          target_below limit (targets i) (subst (λ j. All (λ target. target < limit) (targets j)) (get_or_from_slice_get xs k i i is) (all k i (slice_get_within xs k i is))) some

module _ {A : Type 0} where
  -- three more elements
  pub three_more : (p q r s : List A) (a b c x y z : A) → q ≡ p ++ a ∷ [] → r ≡ q ++ b ∷ [] → s ≡ r ++ c ∷ [] → a ≡ x → b ≡ y → c ≡ z → s ≡ p ++ x ∷ y ∷ z ∷ []
  three_more p q r s a b c x y z q_is r_is s_is a_is b_is c_is =
      s_is
      ∙ ap (λ xs. xs ++ c ∷ []) (r_is ∙ ap (λ xs. xs ++ b ∷ []) q_is ∙ append_assoc p (a ∷ []) (b ∷ []))
      ∙ append_assoc p (a ∷ b ∷ []) (c ∷ [])
      ∙ ap (λ v. p ++ v ∷ b ∷ c ∷ []) a_is
      ∙ ap (λ v. p ++ x ∷ v ∷ c ∷ []) b_is
      ∙ ap (λ v. p ++ x ∷ y ∷ v ∷ []) c_is
