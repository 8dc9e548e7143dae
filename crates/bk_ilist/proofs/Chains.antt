-- Chains: their parts, a change of one node, and that a walk reads them.
use Rattle.std.proofs.Common.{◌≡◌, ℕ, zero, suc, ◌<◌, ◌≤◌, false, List, [], ◌∷◌, ◌++◌, length, Option, Some, None, slice_get, refl, sym, ap, subst, ◌∙◌, arith}
use Rattle.std.proofs.lemmas.Bool.{eq-eqb}
use Rattle.std.proofs.lemmas.Option.{slice_get_within}
use Rattle.std.specs.Prelude.{nat_eq}
use Rattle.std.specs.Option.{option_map}
use Rattle.std.specs.List.{IsDistinct}
use Rattle.bk_ilist.specs.declared.node.Node.{Node}
use Rattle.bk_ilist.specs.Listing.{ids, first_or, last_or}
use Rattle.bk_ilist.specs.model.Chain.{item_of, next_of, with_pair, walk, pairs_from, node, IsChainPart, IsChain, points, with_next, with_prev, node_behind}
use Rattle.bk_ilist.proofs.Distinct.{nat_eq-flip, Away, last_not}

module _ {T : Type 0} where
  pub changed_here : (change : Node T → Node T) (id : ℕ) (found : Option (Node T)) → node_behind change (Some id) id found ≡ option_map change found
  changed_here change id found = rw (eq-eqb id id refl) refl

  pub changed_away : (change : Node T → Node T) (at : Option ℕ) (id : ℕ) (found : Option (Node T)) → points at id ≡ false → node_behind change at id found ≡ found
  changed_away change at id found h = rw h refl

  -- the parts of a chain are chains, and the other way round
  pub linked_append : (f : ℕ → Option (Node T)) (prev : Option ℕ) (xs ys : List (ℕ × T)) (next : Option ℕ) → IsChainPart f prev xs (first_or ys next) → IsChainPart f (last_or xs prev) ys next → IsChainPart f prev (xs ++ ys) next
  linked_append f prev [] ys next a b = b
  linked_append f prev (x ∷ []) ys next a b = (a.0, b)
  linked_append f prev (x ∷ (y ∷ xs)) ys next a b = (a.0, linked_append f (Some x.0) (y ∷ xs) ys next a.1 b)

  pub linked_left : (f : ℕ → Option (Node T)) (prev : Option ℕ) (xs ys : List (ℕ × T)) (next : Option ℕ) → IsChainPart f prev (xs ++ ys) next → IsChainPart f prev xs (first_or ys next)
  linked_left f prev [] ys next a = tt
  linked_left f prev (x ∷ []) ys next a = (a.0, tt)
  linked_left f prev (x ∷ (y ∷ xs)) ys next a = (a.0, linked_left f (Some x.0) (y ∷ xs) ys next a.1)

  pub linked_right : (f : ℕ → Option (Node T)) (prev : Option ℕ) (xs ys : List (ℕ × T)) (next : Option ℕ) → IsChainPart f prev (xs ++ ys) next → IsChainPart f (last_or xs prev) ys next
  linked_right f prev [] ys next a = a
  linked_right f prev (x ∷ xs) ys next a = linked_right f (Some x.0) xs ys next a.1

  -- what is found stays found
  pub linked_more : (f g : ℕ → Option (Node T)) → ((id : ℕ) (n : Node T) → f id ≡ Some n → g id ≡ Some n) → (prev : Option ℕ) (xs : List (ℕ × T)) (next : Option ℕ) → IsChainPart f prev xs next → IsChainPart g prev xs next
  linked_more f g keeps prev [] next a = tt
  linked_more f g keeps prev (x ∷ xs) next a = (keeps x.0 _ a.0, linked_more f g keeps (Some x.0) xs next a.1)

  -- a change of a node that is none of these
  pub linked_away : (f g : ℕ → Option (Node T)) (change : Node T → Node T) (at : Option ℕ) → ((id : ℕ) → g id ≡ node_behind change at id (f id)) → (prev : Option ℕ) (xs : List (ℕ × T)) (next : Option ℕ) → Away at xs → IsChainPart f prev xs next → IsChainPart g prev xs next
  linked_away f g change at is prev [] next away a = tt
  linked_away f g change at is prev (x ∷ xs) next away a =
      (is x.0 ∙ changed_away change at x.0 (f x.0) away.0 ∙ a.0, linked_away f g change at is (Some x.0) xs next away.1 a.1)

  -- the last of a part names another next
  pub linked_next : (f g : ℕ → Option (Node T)) (to : Option ℕ) (prev : Option ℕ) (xs : List (ℕ × T)) (next : Option ℕ) → ((id : ℕ) → g id ≡ node_behind (with_next to) (last_or xs None) id (f id)) → IsDistinct nat_eq (ids xs) → IsChainPart f prev xs next → IsChainPart g prev xs to
  unfolding IsDistinct
  linked_next f g to prev [] next is d a = tt
  linked_next f g to prev (x ∷ []) next is d a =
      (is x.0 ∙ changed_here (with_next to) x.0 (f x.0) ∙ ap (option_map (with_next to)) a.0, tt)
  linked_next f g to prev (x ∷ (y ∷ xs)) next is d a =
      let other = last_not x.0 (Some y.0) xs (nat_eq-flip x.0 y.0 d.0.0) d.0.1 in
      (is x.0 ∙ changed_away (with_next to) (last_or xs (Some y.0)) x.0 (f x.0) other ∙ a.0, linked_next f g to (Some x.0) (y ∷ xs) next is d.1 a.1)

  -- the first of a part names another before it
  pub linked_prev : (f g : ℕ → Option (Node T)) (to : Option ℕ) (prev : Option ℕ) (xs : List (ℕ × T)) (next : Option ℕ) → ((id : ℕ) → g id ≡ node_behind (with_prev to) (first_or xs None) id (f id)) → IsDistinct nat_eq (ids xs) → IsChainPart f prev xs next → IsChainPart g to xs next
  unfolding IsDistinct
  linked_prev f g to prev [] next is d a = tt
  linked_prev f g to prev (x ∷ xs) next is d a =
      (is x.0 ∙ changed_here (with_prev to) x.0 (f x.0) ∙ ap (option_map (with_prev to)) a.0, linked_away f g (with_prev to) (Some x.0) is (Some x.0) xs next d.0 a.1)

  -- a walk reads a chain
  pub walk_linked : (most : ℕ) (nodes : List (Node T)) (prev : Option ℕ) (xs : List (ℕ × T)) → IsChainPart (slice_get nodes) prev xs None → length xs ≤ most → walk most nodes (first_or xs None) ≡ xs
  unfolding walk
  walk_linked zero nodes prev [] a short = refl
  walk_linked zero nodes prev (x ∷ xs) a short = absurd (omega arith)
  walk_linked (suc most) nodes prev [] a short = refl
  walk_linked (suc most) nodes prev (x ∷ xs) a short =
      ap (λ found. with_pair x.0 (item_of found) (walk most nodes (next_of found))) a.0
      ∙ ap (λ rest. x ∷ rest) (walk_linked most nodes (Some x.0) xs a.1 (omega arith))

  pub pairs_from-chain : (nodes : List (Node T)) (first last : Option ℕ) (xs : List (ℕ × T)) → IsChain nodes first last xs → pairs_from nodes first ≡ xs
  pairs_from-chain nodes first last xs chain =
      ap (walk (length nodes) nodes) chain.begins ∙ walk_linked (length nodes) nodes None xs chain.linked chain.short

  -- what a walk reads of a chain is that chain
  pub chain_read : (nodes : List (Node T)) (first last : Option ℕ) (xs : List (ℕ × T)) → IsChain nodes first last xs → IsChain nodes first last (pairs_from nodes first)
  chain_read nodes first last xs chain =
      subst (IsChain nodes first last) (sym (pairs_from-chain nodes first last xs chain)) chain

  -- the node of a pair
  pub node_of_pair : (nodes : List (Node T)) (first last : Option ℕ) (xs before after : List (ℕ × T)) (id : ℕ) (item : T) → IsChain nodes first last xs → xs ≡ before ++ (id, item) ∷ after → slice_get nodes id ≡ Some (node item (last_or before None) (first_or after None))
  node_of_pair nodes first last xs before after id item chain split =
      (linked_right (slice_get nodes) None before ((id, item) ∷ after) None (subst (λ ps. IsChainPart (slice_get nodes) None ps None) split chain.linked)).0

  pub pair_within : (nodes : List (Node T)) (first last : Option ℕ) (xs before after : List (ℕ × T)) (id : ℕ) (item : T) → IsChain nodes first last xs → xs ≡ before ++ (id, item) ∷ after → id < length nodes
  pair_within nodes first last xs before after id item chain split =
      slice_get_within nodes id _ (node_of_pair nodes first last xs before after id item chain split)
