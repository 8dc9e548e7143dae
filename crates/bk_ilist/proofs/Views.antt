-- What a list's view says of its nodes.
use Rattle.std.proofs.Common.{◌≡◌, ℕ, ◌+◌, ◌^◌, ◌<◌, ◌≤◌, List, [], ◌∷◌, ◌++◌, length, get_or, Option, Some, None, IsSome, IfSome, All, slice_get, refl, sym, ap, subst, ◌∙◌, arith, append_assoc}
use Rattle.std.proofs.lemmas.Option.{slice_get_within, slice_get_read, same_Some}
use Rattle.std.proofs.lemmas.List.Elements.{All-nil, All-cons}
use Rattle.std.specs.List.{IsDistinct}
use Rattle.bk_ilist.specs.declared.node.Node.{Node}
use Rattle.bk_ilist.specs.Listing.{Listing, ids, first_or, last_or, HasId, IsListing}
use Rattle.bk_ilist.specs.model.Chain.{item_of, walk, pairs_from, node, IsChainPart, IsChain}
use Rattle.bk_ilist.proofs.Chains.{linked_left, linked_right, node_of_pair}
use Rattle.bk_ilist.proofs.Changes.{last_or-append}

module _ {T : Type 0} where
  pub pairs_same : (a b : Listing T) → a ≡ b → a.pairs ≡ b.pairs
  pairs_same a b e = ap (λ l. l.pairs) e

  pub spare_same : (a b : Listing T) → a ≡ b → a.spare ≡ b.spare
  spare_same a b e = ap (λ l. l.spare) e

  pub made_same : (a b : Listing T) → a ≡ b → a.made ≡ b.made
  made_same a b e = ap (λ l. l.made) e

  -- the node of a pair that the view shows
  pub found : (nodes : List (Node T)) (first last : Option ℕ) (pairs before after : List (ℕ × T)) (id : ℕ) (item : T) → IsChain nodes first last (pairs_from nodes first) → pairs_from nodes first ≡ pairs → pairs ≡ before ++ (id, item) ∷ after → slice_get nodes id ≡ Some (node item (last_or before None) (first_or after None))
  found nodes first last pairs before after id item chain view split =
      node_of_pair nodes first last (pairs_from nodes first) before after id item chain (view ∙ split)

  pub within : (nodes : List (Node T)) (first last : Option ℕ) (pairs : List (ℕ × T)) (id : ℕ) → IsChain nodes first last (pairs_from nodes first) → pairs_from nodes first ≡ pairs → HasId pairs id → id < length nodes
  within nodes first last pairs id chain view has =
      slice_get_within nodes id _ (found nodes first last pairs has.before has.after id has.item chain view has.split)

  pub has_item : (nodes : List (Node T)) (first last : Option ℕ) (pairs : List (ℕ × T)) (id : ℕ) → IsChain nodes first last (pairs_from nodes first) → pairs_from nodes first ≡ pairs → HasId pairs id → IsSome (item_of (slice_get nodes id))
  has_item nodes first last pairs id chain view has =
      rw (found nodes first last pairs has.before has.after id has.item chain view has.split) refl

  -- the node that a read gives
  pub node_read : (nodes : List (Node T)) (first last : Option ℕ) (pairs before after : List (ℕ × T)) (id : ℕ) (item : T) (n : Node T) → IsChain nodes first last (pairs_from nodes first) → pairs_from nodes first ≡ pairs → pairs ≡ before ++ (id, item) ∷ after → n ≡ get_or nodes id n → n ≡ node item (last_or before None) (first_or after None)
  node_read nodes first last pairs before after id item n chain view split read =
      let here = found nodes first last pairs before after id item chain view split in
      same_Some _ _ (sym (slice_get_read nodes (length nodes) id n refl (slice_get_within nodes id _ here) read) ∙ here)

  pub prev_read : (nodes : List (Node T)) (first last : Option ℕ) (pairs before after : List (ℕ × T)) (id : ℕ) (item : T) (n : Node T) → IsChain nodes first last (pairs_from nodes first) → pairs_from nodes first ≡ pairs → pairs ≡ before ++ (id, item) ∷ after → n ≡ get_or nodes id n → n.prev ≡ last_or before None
  prev_read nodes first last pairs before after id item n chain view split read =
      ap (λ n. n.prev) (node_read nodes first last pairs before after id item n chain view split read)

  pub next_read : (nodes : List (Node T)) (first last : Option ℕ) (pairs before after : List (ℕ × T)) (id : ℕ) (item : T) (n : Node T) → IsChain nodes first last (pairs_from nodes first) → pairs_from nodes first ≡ pairs → pairs ≡ before ++ (id, item) ∷ after → n ≡ get_or nodes id n → n.next ≡ first_or after None
  next_read nodes first last pairs before after id item n chain view split read =
      ap (λ n. n.next) (node_read nodes first last pairs before after id item n chain view split read)

  -- the item that a read gives
  pub item_read : (nodes : List (Node T)) (first last : Option ℕ) (pairs before after : List (ℕ × T)) (id : ℕ) (item got : T) → IsChain nodes first last (pairs_from nodes first) → pairs_from nodes first ≡ pairs → pairs ≡ before ++ (id, item) ∷ after → item_of (slice_get nodes id) ≡ Some got → got ≡ item
  item_read nodes first last pairs before after id item got chain view split is =
      same_Some got item (sym is ∙ ap item_of (found nodes first last pairs before after id item chain view split))

  first_within : (nodes : List (Node T)) (prev : Option ℕ) (xs : List (ℕ × T)) (next : Option ℕ) (n : ℕ) → length nodes ≤ n → IsChainPart (slice_get nodes) prev xs next → IfSome (first_or xs None) (λ id. id < n)
  first_within nodes prev [] next n enough a = tt
  first_within nodes prev (x ∷ xs) next n enough a = omega (arith, slice_get_within nodes x.0 _ a.0)

  last_within : (nodes : List (Node T)) (prev other : Option ℕ) (xs : List (ℕ × T)) (next : Option ℕ) (n : ℕ) → length nodes ≤ n → IfSome other (λ id. id < n) → IsChainPart (slice_get nodes) prev xs next → IfSome (last_or xs other) (λ id. id < n)
  last_within nodes prev other [] next n enough h a = h
  last_within nodes prev other (x ∷ xs) next n enough h a =
      let here : x.0 < n = omega (arith, slice_get_within nodes x.0 _ a.0) in
      last_within nodes (Some x.0) (Some x.0) xs next n enough here a.1

  -- the links at a gap name nodes
  pub gap_prev : (nodes : List (Node T)) (first last : Option ℕ) (pairs before after : List (ℕ × T)) (prev : Option ℕ) (n : ℕ) → IsChain nodes first last (pairs_from nodes first) → pairs_from nodes first ≡ pairs → pairs ≡ before ++ after → prev ≡ last_or before None → length nodes ≤ n → IfSome prev (λ id. id < n)
  gap_prev nodes first last pairs before after prev n chain view split is enough =
      let whole : IsChainPart (slice_get nodes) None (before ++ after) None = subst (λ ps. IsChainPart (slice_get nodes) None ps None) (view ∙ split) chain.linked in
      subst (λ p. IfSome p (λ id. id < n)) (sym is) (last_within nodes None None before _ n enough tt (linked_left (slice_get nodes) None before after None whole))

  pub gap_next : (nodes : List (Node T)) (first last : Option ℕ) (pairs before after : List (ℕ × T)) (next : Option ℕ) (n : ℕ) → IsChain nodes first last (pairs_from nodes first) → pairs_from nodes first ≡ pairs → pairs ≡ before ++ after → next ≡ first_or after None → length nodes ≤ n → IfSome next (λ id. id < n)
  gap_next nodes first last pairs before after next n chain view split is enough =
      let whole : IsChainPart (slice_get nodes) None (before ++ after) None = subst (λ ps. IsChainPart (slice_get nodes) None ps None) (view ∙ split) chain.linked in
      subst (λ p. IfSome p (λ id. id < n)) (sym is) (first_within nodes _ after None n enough (linked_right (slice_get nodes) None before after None whole))

  -- a split behind a pair
  pub split_after : (pairs before after : List (ℕ × T)) (p : ℕ × T) → pairs ≡ before ++ p ∷ after → pairs ≡ (before ++ p ∷ []) ++ after
  split_after pairs before after p split = split ∙ sym (append_assoc before (p ∷ []) after)

  -- the links that a node names are nodes
  pub prev_within : (nodes : List (Node T)) (first last : Option ℕ) (pairs : List (ℕ × T)) (id : ℕ) (node : Node T) (n : ℕ) → IsChain nodes first last (pairs_from nodes first) → pairs_from nodes first ≡ pairs → HasId pairs id → node ≡ get_or nodes id node → length nodes ≤ n → IfSome node.prev (λ other. other < n)
  prev_within nodes first last pairs id node n chain view has read enough =
      gap_prev nodes first last pairs has.before ((id, has.item) ∷ has.after) node.prev n chain view has.split (prev_read nodes first last pairs has.before has.after id has.item node chain view has.split read) enough

  pub next_within : (nodes : List (Node T)) (first last : Option ℕ) (pairs : List (ℕ × T)) (id : ℕ) (node : Node T) (n : ℕ) → IsChain nodes first last (pairs_from nodes first) → pairs_from nodes first ≡ pairs → HasId pairs id → node ≡ get_or nodes id node → length nodes ≤ n → IfSome node.next (λ other. other < n)
  next_within nodes first last pairs id node n chain view has read enough =
      gap_next nodes first last pairs (has.before ++ (id, has.item) ∷ []) has.after node.next n chain view (split_after pairs has.before has.after (id, has.item) has.split) (next_read nodes first last pairs has.before has.after id has.item node chain view has.split read) enough

  given : (nodes : List (Node T)) (prev : Option ℕ) (xs : List (ℕ × T)) (next : Option ℕ) → IsChainPart (slice_get nodes) prev xs next → All (λ id. id < length nodes) (ids xs)
  given nodes prev [] next a = All-nil (λ id. id < length nodes)
  given nodes prev (x ∷ xs) next a = All-cons (λ id. id < length nodes) x.0 (ids xs) (slice_get_within nodes x.0 _ a.0) (given nodes (Some x.0) xs next a.1)

  pub lawful : (nodes : List (Node T)) (first last : Option ℕ) (spare : ℕ) → IsChain nodes first last (pairs_from nodes first) → length nodes + spare < 2 ^ 32 → IsListing (record { pairs = pairs_from nodes first; spare = spare; made = length nodes })
  lawful nodes first last spare chain fits =
      record { distinct = chain.distinct; given = given nodes None (pairs_from nodes first) None chain.linked; fits = fits }

  pub last_of_push : (before : List (ℕ × T)) (p : ℕ × T) → Some p.0 ≡ last_or (before ++ p ∷ []) None
  last_of_push before p = sym (last_or-append before (p ∷ []) None)

  pub empty_pairs : pairs_from {T = T} [] None ≡ []
  unfolding walk
  empty_pairs = refl

  pub empty_chain : IsChain {T = T} [] None None (pairs_from [] None)
  unfolding walk IsDistinct
  empty_chain = record { linked = tt; begins = refl; ends = refl; distinct = tt; short = omega arith }
