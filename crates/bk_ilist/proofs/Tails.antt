-- The rest of a chain from a link on.
use Rattle.std.proofs.Common.{◌≡◌, ℕ, ◌<◌, List, [], ◌∷◌, length, Option, Some, None, IsSome, slice_get, refl, sym, ap, subst, ◌∙◌, arith}
use Rattle.std.proofs.lemmas.Option.{slice_get_within, same_Some, none-some}
use Rattle.bk_ilist.specs.declared.node.Node.{Node}
use Rattle.bk_ilist.specs.Listing.{first_or}
use Rattle.bk_ilist.specs.model.Chain.{item_of, next_of, walk, pairs_from, node, IsChain, IsTail}
use Rattle.bk_ilist.proofs.Chains.{walk_linked}

module _ {T : Type 0} where
  pub pairs_from-tail : (nodes : List (Node T)) (at : Option ℕ) (xs : List (ℕ × T)) → IsTail nodes at xs → pairs_from nodes at ≡ xs
  pairs_from-tail nodes at xs tail =
      ap (walk (length nodes) nodes) tail.begins ∙ walk_linked (length nodes) nodes tail.prev xs tail.linked tail.short

  -- a chain is a tail from its first
  pub tail_of_chain : (nodes : List (Node T)) (first last : Option ℕ) (xs : List (ℕ × T)) → IsChain nodes first last xs → IsTail nodes first xs
  tail_of_chain nodes first last xs chain =
      record { prev = None; linked = chain.linked; begins = chain.begins; short = chain.short }

  -- the first pair of a tail, and the tail behind it
  record Step (nodes : List (Node T)) (id : ℕ) (xs : List (ℕ × T)) : Type 0 where
    item : T
    rest : List (ℕ × T)
    is : xs ≡ (id, item) ∷ rest
    before : Option ℕ
    node_is : slice_get nodes id ≡ Some (node item before (first_or rest None))
    tail : IsTail nodes (first_or rest None) rest

  step : (nodes : List (Node T)) (at : Option ℕ) (id : ℕ) (xs : List (ℕ × T)) → IsTail nodes at xs → at ≡ Some id → Step nodes id xs
  step nodes at id [] tail is = absurd (none-some id (sym tail.begins ∙ is))
  step nodes at id (x ∷ xs) tail is =
      let same : x.0 ≡ id = same_Some x.0 id (sym tail.begins ∙ is) in
      record {
        item = x.1;
        rest = xs;
        is = ap (λ k. (k, x.1) ∷ xs) same;
        before = tail.prev;
        node_is = subst (λ k. slice_get nodes k ≡ Some (node x.1 tail.prev (first_or xs None))) same tail.linked.0;
        tail = record { prev = Some x.0; linked = tail.linked.1; begins = refl; short = omega (arith, tail.short) };
      }

  pub tail_within : (nodes : List (Node T)) (at : Option ℕ) (id : ℕ) (xs : List (ℕ × T)) → IsTail nodes at xs → at ≡ Some id → id < length nodes
  tail_within nodes at id xs tail is = slice_get_within nodes id _ (step nodes at id xs tail is).node_is

  pub tail_has_item : (nodes : List (Node T)) (at : Option ℕ) (id : ℕ) (xs : List (ℕ × T)) → IsTail nodes at xs → at ≡ Some id → IsSome (item_of (slice_get nodes id))
  tail_has_item nodes at id xs tail is = rw (step nodes at id xs tail is).node_is refl

  tail_next : (nodes : List (Node T)) (at : Option ℕ) (id : ℕ) (next : Option ℕ) (xs : List (ℕ × T)) (tail : IsTail nodes at xs) (is : at ≡ Some id) → next ≡ next_of (slice_get nodes id) → next ≡ first_or (step nodes at id xs tail is).rest None
  tail_next nodes at id next xs tail is next_is = next_is ∙ ap next_of (step nodes at id xs tail is).node_is

  pub tail_after : (nodes : List (Node T)) (at : Option ℕ) (id : ℕ) (next : Option ℕ) → IsTail nodes at (pairs_from nodes at) → at ≡ Some id → next ≡ next_of (slice_get nodes id) → IsTail nodes next (pairs_from nodes next)
  tail_after nodes at id next tail is next_is =
      let here = step nodes at id _ tail is in
      let behind : next ≡ first_or here.rest None = tail_next nodes at id next _ tail is next_is in
      let rest : IsTail nodes next here.rest = subst (λ n. IsTail nodes n here.rest) (sym behind) here.tail in
      subst (IsTail nodes next) (sym (pairs_from-tail nodes next here.rest rest)) rest

  pub tail_first : (nodes : List (Node T)) (at : Option ℕ) (id : ℕ) (next : Option ℕ) (got : T) → IsTail nodes at (pairs_from nodes at) → at ≡ Some id → next ≡ next_of (slice_get nodes id) → item_of (slice_get nodes id) ≡ Some got → pairs_from nodes at ≡ (id, got) ∷ pairs_from nodes next
  tail_first nodes at id next got tail is next_is got_is =
      let here = step nodes at id _ tail is in
      let behind : next ≡ first_or here.rest None = tail_next nodes at id next _ tail is next_is in
      let rest : IsTail nodes next here.rest = subst (λ n. IsTail nodes n here.rest) (sym behind) here.tail in
      let same : here.item ≡ got = same_Some here.item got (sym (ap item_of here.node_is) ∙ got_is) in
      here.is ∙ ap (λ x. (id, x) ∷ here.rest) same ∙ ap (λ r. (id, got) ∷ r) (sym (pairs_from-tail nodes next here.rest rest))
