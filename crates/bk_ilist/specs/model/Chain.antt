-- How an `IndexList` lays out its nodes: each names the one before it and the one behind it.
use Rattle.std.specs.Prelude.{◌≡◌, ℕ, zero, suc, ◌≤◌, Bool, false, List, [], ◌∷◌, ◌++◌, length, Option, Some, None, nat_eq, slice_get, if◌then◌else◌, option_and_then}
use Rattle.std.specs.Option.{option_map}
use Rattle.std.specs.List.{IsDistinct}
use Rattle.bk_ilist.specs.declared.node.Node.{Node}
use Rattle.bk_ilist.specs.Listing.{ids, first_or, first_id, last_id}

-- whether a link names this id
abbrev pub points : Option ℕ → ℕ → Bool
points None id = false
points (Some other) id = nat_eq other id

-- an end of a chain after a link past it was set: it moves only where there is no node
abbrev pub end_behind : Option ℕ → Option ℕ → Option ℕ → Option ℕ
end_behind None to end = to
end_behind (Some id) to end = end

module _ {T : Type 0} where
  -- the item at an id, if there is one
  abbrev pub item_of : Option (Node T) → Option T
  item_of node = option_and_then (λ n. n.item) node

  -- the id that a node names as the next
  abbrev pub next_of : Option (Node T) → Option ℕ
  next_of node = option_and_then (λ n. n.next) node

  -- a pair before others, if there is an item
  abbrev pub with_pair : ℕ → Option T → List (ℕ × T) → List (ℕ × T)
  with_pair id None rest = []
  with_pair id (Some item) rest = (id, item) ∷ rest

  -- the pairs from a link on, at most so many
  unfoldable pub walk : ℕ → List (Node T) → Option ℕ → List (ℕ × T)
  walk zero nodes at = []
  walk (suc most) nodes None = []
  walk (suc most) nodes (Some id) =
      with_pair id (item_of (slice_get nodes id)) (walk most nodes (next_of (slice_get nodes id)))

  -- the pairs of a chain that begins at this link
  abbrev pub pairs_from : List (Node T) → Option ℕ → List (ℕ × T)
  pairs_from nodes first = walk (length nodes) nodes first

  abbrev pub node : T → Option ℕ → Option ℕ → Node T
  node item prev next = record { item = Some item; next = next; prev = prev }

  -- each pair has its node, which names those beside it; `prev` and `next` are named at the ends
  abbrev pub IsChainPart : (ℕ → Option (Node T)) → Option ℕ → List (ℕ × T) → Option ℕ → Type 0
  IsChainPart node_at prev [] next = Unit {0}
  IsChainPart node_at prev (p ∷ pairs) next =
      (node_at p.0 ≡ Some (node p.1 prev (first_or pairs next))) × IsChainPart node_at (Some p.0) pairs next

  -- the nodes chain these pairs both ways, from `first` to `last`
  pub record IsChain (nodes : List (Node T)) (first last : Option ℕ) (pairs : List (ℕ × T)) : Type 0 where
    pub linked : IsChainPart (slice_get nodes) None pairs None
    pub begins : first ≡ first_id pairs
    pub ends : last ≡ last_id pairs
    pub distinct : IsDistinct nat_eq (ids pairs)
    pub short : length pairs ≤ length nodes

  -- the nodes chain these pairs from this link to the last
  pub record IsTail (nodes : List (Node T)) (at : Option ℕ) (pairs : List (ℕ × T)) : Type 0 where
    pub prev : Option ℕ
    pub linked : IsChainPart (slice_get nodes) prev pairs None
    pub begins : at ≡ first_id pairs
    pub short : length pairs ≤ length nodes

  -- the pairs fall into two parts between these links
  pub record HasGap (pairs : List (ℕ × T)) (prev next : Option ℕ) : Type 0 where
    pub before : List (ℕ × T)
    pub after : List (ℕ × T)
    pub split : pairs ≡ before ++ after
    pub prev_is : prev ≡ last_id before
    pub next_is : next ≡ first_id after

  -- what holds of the parts that meet between these links
  abbrev pub AtGap : List (ℕ × T) → Option ℕ → Option ℕ → (List (ℕ × T) → List (ℕ × T) → Type 0) → Type 0
  AtGap pairs prev next P =
      (before after : List (ℕ × T)) → pairs ≡ before ++ after → prev ≡ last_id before → next ≡ first_id after →
      P before after

  abbrev pub with_item : Option T → Node T → Node T
  with_item item n = record n { item = item }

  abbrev pub with_next : Option ℕ → Node T → Node T
  with_next next n = record n { next = next }

  abbrev pub with_prev : Option ℕ → Node T → Node T
  with_prev prev n = record n { prev = prev }

  -- a node after a change of the one that a link names
  abbrev pub node_behind : (Node T → Node T) → Option ℕ → ℕ → Option (Node T) → Option (Node T)
  node_behind change at id found = if points at id then option_map change found else found

  -- the node that a link names has changed, and no other
  abbrev pub Changes : (Node T → Node T) → Option ℕ → List (Node T) → List (Node T) → Type 0
  Changes change at old new = (id : ℕ) → slice_get new id ≡ node_behind change at id (slice_get old id)
