-- How each change of the nodes changes the pairs that they chain.
use Rattle.std.proofs.Common.{◌≡◌, ◌≢◌, inl, inr, set, ℕ, zero, suc, ◌+◌, ◌<◌, false, List, [], ◌∷◌, ◌++◌, length, Option, Some, None, slice_get, refl, sym, ap, subst, ◌∙◌, arith, length-append}
use Rattle.std.proofs.lemmas.Bool.Decides.{nat_tests, eqb_tells}
use Rattle.std.proofs.lemmas.Option.{slice_get_within, none-some}
use Rattle.std.specs.Prelude.{nat_eq}
use Rattle.std.specs.Option.{option_map}
use Rattle.std.specs.List.{IsDistinct}
use Rattle.bk_ilist.specs.declared.node.Node.{Node}
use Rattle.bk_ilist.specs.Listing.{ids, first_or, last_or}
use Rattle.bk_ilist.specs.model.Chain.{node, IsChainPart, IsChain, with_item, with_next, with_prev, node_behind, Changes, end_behind}
use Rattle.bk_ilist.proofs.Distinct.{Away, away_none, distinct_left, distinct_right, last_away, last_not, first_not, first_away, distinct_with, distinct_without, ids_same}
use Rattle.bk_ilist.proofs.Chains.{changed_here, changed_away, linked_append, linked_left, linked_right, linked_more, linked_away, linked_next, linked_prev}

below_apart : (a b : ℕ) → b < a → nat_eq a b ≡ false
below_apart a b h = grind (arith, nat_tests)

module _ {T : Type 0} where
  slice_get-push_old : (xs : List (Node T)) (x : Node T) (id : ℕ) (n : Node T) → slice_get xs id ≡ Some n → slice_get (xs ++ x ∷ []) id ≡ Some n
  slice_get-push_old [] x id n h = absurd (none-some n h)
  slice_get-push_old (y ∷ xs) x zero n h = h
  slice_get-push_old (y ∷ xs) x (suc id) n h = slice_get-push_old xs x id n h

  slice_get-push_new : (xs : List (Node T)) (x : Node T) → slice_get (xs ++ x ∷ []) (length xs) ≡ Some x
  slice_get-push_new [] x = refl
  slice_get-push_new (y ∷ xs) x = slice_get-push_new xs x

  slice_get-set_same : (xs : List (Node T)) (id : ℕ) (new old : Node T) → slice_get xs id ≡ Some old → slice_get (set xs id new) id ≡ Some new
  slice_get-set_same [] id new old h = absurd (none-some old h)
  slice_get-set_same (x ∷ xs) zero new old h = refl
  slice_get-set_same (x ∷ xs) (suc id) new old h = slice_get-set_same xs id new old h

  slice_get-set_other : (xs : List (Node T)) (id other : ℕ) (new : Node T) → id ≢ other → slice_get (set xs id new) other ≡ slice_get xs other
  slice_get-set_other [] id other new apart = refl
  slice_get-set_other (x ∷ xs) zero zero new apart = absurd (apart refl)
  slice_get-set_other (x ∷ xs) zero (suc other) new apart = refl
  slice_get-set_other (x ∷ xs) (suc id) zero new apart = refl
  slice_get-set_other (x ∷ xs) (suc id) (suc other) new apart = slice_get-set_other xs id other new (λ e. apart (ap suc e))

  -- a write of a node changes that node
  pub set_changes : (xs : List (Node T)) (id : ℕ) (change : Node T → Node T) (new old : Node T) → slice_get xs id ≡ Some old → new ≡ change old → Changes change (Some id) xs (set xs id new)
  set_changes xs id change new old found is other =
      elim (eqb_tells id other) [
        | inl same ↦ rw (same.0, ← same.1, slice_get-set_same xs id new old found, found, is) refl
        | inr apart ↦ slice_get-set_other xs id other new apart.1 ∙ sym (changed_away change (Some id) other (slice_get xs other) apart.0)
      ]

  pub last_or-append : (xs ys : List (ℕ × T)) (other : Option ℕ) → last_or (xs ++ ys) other ≡ last_or ys (last_or xs other)
  last_or-append [] ys other = refl
  last_or-append (x ∷ xs) ys other = last_or-append xs ys (Some x.0)

  moved_not : (xs : List (ℕ × T)) (id : ℕ) (to end : Option ℕ) → end_behind (last_or xs (Some id)) to end ≡ end
  moved_not [] id to end = refl
  moved_not (x ∷ xs) id to end = moved_not xs x.0 to end

  -- the first of two parts after the first link into the second was set
  begins_moved : (before after new : List (ℕ × T)) → end_behind (last_or before None) (first_or new None) (first_or (before ++ after) None) ≡ first_or (before ++ new) None
  begins_moved [] after new = refl
  begins_moved (x ∷ before) after new = moved_not before x.0 (first_or new None) (Some x.0)

  -- the last of two parts after the last link out of the first was set
  ends_moved' : (before after : List (ℕ × T)) (to : Option ℕ) → end_behind (first_or after None) to (last_or (before ++ after) None) ≡ last_or after to
  ends_moved' before [] to = refl
  ends_moved' before (y ∷ after) to = last_or-append before (y ∷ after) None

  -- the same, with a pair between them
  ends_moved : (before : List (ℕ × T)) (p : ℕ × T) (after : List (ℕ × T)) (to : Option ℕ) → end_behind (first_or after None) to (last_or (before ++ p ∷ after) None) ≡ last_or after to
  ends_moved before p [] to = refl
  ends_moved before p (y ∷ after) to = last_or-append before (p ∷ y ∷ after) None

  -- the next id is none of those in a chain
  fresh : (nodes : List (Node T)) (prev : Option ℕ) (xs : List (ℕ × T)) (next : Option ℕ) → IsChainPart (slice_get nodes) prev xs next → Away (Some (length nodes)) xs
  fresh nodes prev [] next a = tt
  fresh nodes prev (x ∷ xs) next a =
      (below_apart (length nodes) x.0 (slice_get_within nodes x.0 _ a.0), fresh nodes (Some x.0) xs next a.1)

  -- a node was pushed, and linked between two parts
  pub chain_inserted : (nodes n2 n3 : List (Node T)) (first last first' last' prev next : Option ℕ) (xs before after : List (ℕ × T)) (new : ℕ) (item : T) → IsChain nodes first last xs → xs ≡ before ++ after → prev ≡ last_or before None → next ≡ first_or after None → new ≡ length nodes → Changes (with_next (Some new)) prev (nodes ++ node item prev next ∷ []) n2 → Changes (with_prev (Some new)) next n2 n3 → length n3 ≡ length nodes + 1 → first' ≡ end_behind prev (Some new) first → last' ≡ end_behind next (Some new) last → IsChain n3 first' last' (before ++ (new, item) ∷ after)
  chain_inserted nodes n2 n3 first last first' last' prev next xs before after new item chain split prev_is next_is new_is forward back grown first_is last_is =
      let f = slice_get nodes in
      let g1 = slice_get (nodes ++ node item prev next ∷ []) in
      let g2 = slice_get n2 in
      let g3 = slice_get n3 in
      let whole : IsChainPart f None (before ++ after) None = subst (λ ps. IsChainPart f None ps None) split chain.linked in
      let apart : IsDistinct nat_eq (ids (before ++ after)) = subst (λ ps. IsDistinct nat_eq (ids ps)) split chain.distinct in
      let ch1 : (id : ℕ) → g2 id ≡ node_behind (with_next (Some new)) (last_or before None) id (g1 id) = subst (λ at. Changes (with_next (Some new)) at (nodes ++ node item prev next ∷ []) n2) prev_is forward in
      let ch2 : (id : ℕ) → g3 id ≡ node_behind (with_prev (Some new)) (first_or after None) id (g2 id) = subst (λ at. Changes (with_prev (Some new)) at n2 n3) next_is back in
      let kept = slice_get-push_old nodes (node item prev next) in
      let a0 = linked_left f None before after None whole in
      let b0 = linked_right f None before after None whole in
      let new_before : Away (Some new) before = subst (λ k. Away (Some k) before) (sym new_is) (fresh nodes None before _ a0) in
      let new_after : Away (Some new) after = subst (λ k. Away (Some k) after) (sym new_is) (fresh nodes _ after None b0) in
      let a1 = linked_more f g1 kept None before (first_or after None) a0 in
      let b1 = linked_more f g1 kept (last_or before None) after None b0 in
      let a2 = linked_next g1 g2 (Some new) None before (first_or after None) ch1 (distinct_left before after apart) a1 in
      let b2 = linked_away g1 g2 (with_next (Some new)) (last_or before None) ch1 (last_or before None) after None (last_away None before after (away_none after) apart) b1 in
      let a3 = linked_away g2 g3 (with_prev (Some new)) (first_or after None) ch2 None before (Some new) (first_away before after apart) a2 in
      let b3 = linked_prev g2 g3 (Some new) (last_or before None) after None ch2 (distinct_right before after apart) b2 in
      let found1 : g1 new ≡ Some (node item prev next) = ap g1 new_is ∙ slice_get-push_new nodes (node item prev next) in
      let found2 : g2 new ≡ Some (node item prev next) = ch1 new ∙ changed_away (with_next (Some new)) (last_or before None) new (g1 new) (last_not new None before refl new_before) ∙ found1 in
      let found3 : g3 new ≡ Some (node item prev next) = ch2 new ∙ changed_away (with_prev (Some new)) (first_or after None) new (g2 new) (first_not new after new_after) ∙ found2 in
      let here : g3 new ≡ Some (node item (last_or before None) (first_or after None)) = found3 ∙ ap (λ p. Some (node item p next)) prev_is ∙ ap (λ n. Some (node item (last_or before None) n)) next_is in
      record {
        linked = linked_append g3 None before ((new, item) ∷ after) None a3 (here, b3);
        begins = first_is ∙ ap (λ at. end_behind at (Some new) first) prev_is ∙ ap (end_behind (last_or before None) (Some new)) (chain.begins ∙ ap (λ ps. first_or ps None) split) ∙ begins_moved before after ((new, item) ∷ after);
        ends = last_is ∙ ap (λ at. end_behind at (Some new) last) next_is ∙ ap (end_behind (first_or after None) (Some new)) (chain.ends ∙ ap (λ ps. last_or ps None) split) ∙ ends_moved' before after (Some new) ∙ sym (last_or-append before ((new, item) ∷ after) None);
        distinct = distinct_with before after (new, item) new_before new_after apart;
        short = omega (arith, chain.short, ap length split, length-append before after, length-append before ((new, item) ∷ after));
      }

  -- a pair's node was emptied, and then linked past
  pub chain_unlinked : (nodes n2 n3 n4 : List (Node T)) (first last first' last' prev next : Option ℕ) (xs before after : List (ℕ × T)) (id : ℕ) (item : T) → IsChain nodes first last xs → xs ≡ before ++ (id, item) ∷ after → prev ≡ last_or before None → next ≡ first_or after None → Changes (with_item None) (Some id) nodes n2 → Changes (with_next next) prev n2 n3 → Changes (with_prev prev) next n3 n4 → length n4 ≡ length nodes → first' ≡ end_behind prev next first → last' ≡ end_behind next prev last → IsChain n4 first' last' (before ++ after)
  unfolding IsDistinct
  chain_unlinked nodes n2 n3 n4 first last first' last' prev next xs before after id item chain split prev_is next_is emptied forward back same_length first_is last_is =
      let f = slice_get nodes in
      let g2 = slice_get n2 in
      let g3 = slice_get n3 in
      let g4 = slice_get n4 in
      let whole : IsChainPart f None (before ++ (id, item) ∷ after) None = subst (λ ps. IsChainPart f None ps None) split chain.linked in
      let all_apart : IsDistinct nat_eq (ids (before ++ (id, item) ∷ after)) = subst (λ ps. IsDistinct nat_eq (ids ps)) split chain.distinct in
      let apart = distinct_without before after (id, item) all_apart in
      let ch3 : (k : ℕ) → g3 k ≡ node_behind (with_next next) (last_or before None) k (g2 k) = subst (λ at. Changes (with_next next) at n2 n3) prev_is forward in
      let ch4 : (k : ℕ) → g4 k ≡ node_behind (with_prev prev) (first_or after None) k (g3 k) = subst (λ at. Changes (with_prev prev) at n3 n4) next_is back in
      let a1 = linked_left f None before ((id, item) ∷ after) None whole in
      let b1 = (linked_right f None before ((id, item) ∷ after) None whole).1 in
      let a2 = linked_away f g2 (with_item None) (Some id) emptied None before (Some id) (first_away before ((id, item) ∷ after) all_apart) a1 in
      let b2 = linked_away f g2 (with_item None) (Some id) emptied (Some id) after None (distinct_right before ((id, item) ∷ after) all_apart).0 b1 in
      let a3 = linked_next g2 g3 next None before (Some id) ch3 (distinct_left before after apart) a2 in
      let b3 = linked_away g2 g3 (with_next next) (last_or before None) ch3 (Some id) after None (last_away None before after (away_none after) apart) b2 in
      let a4 = linked_away g3 g4 (with_prev prev) (first_or after None) ch4 None before next (first_away before after apart) a3 in
      let b4 = linked_prev g3 g4 prev (Some id) after None ch4 (distinct_right before after apart) b3 in
      record {
        linked = linked_append g4 None before after None (subst (λ n. IsChainPart g4 None before n) next_is a4) (subst (λ n. IsChainPart g4 n after None) prev_is b4);
        begins = first_is ∙ ap (λ at. end_behind at next first) prev_is ∙ ap (λ to. end_behind (last_or before None) to first) next_is ∙ ap (end_behind (last_or before None) (first_or after None)) (chain.begins ∙ ap (λ ps. first_or ps None) split) ∙ begins_moved before ((id, item) ∷ after) after;
        ends = last_is ∙ ap (λ at. end_behind at prev last) next_is ∙ ap (λ to. end_behind (first_or after None) to last) prev_is ∙ ap (end_behind (first_or after None) (last_or before None)) (chain.ends ∙ ap (λ ps. last_or ps None) split) ∙ ends_moved before (id, item) after (last_or before None) ∙ sym (last_or-append before after None);
        distinct = apart;
        short = omega (arith, chain.short, ap length split, length-append before after, length-append before ((id, item) ∷ after));
      }

  begins_same : (before after : List (ℕ × T)) (id : ℕ) (old item : T) → first_or (before ++ (id, old) ∷ after) None ≡ first_or (before ++ (id, item) ∷ after) None
  begins_same [] after id old item = refl
  begins_same (x ∷ before) after id old item = refl

  -- the item of a pair's node was changed
  pub chain_set : (nodes n2 : List (Node T)) (first last : Option ℕ) (xs before after : List (ℕ × T)) (id : ℕ) (old item : T) → IsChain nodes first last xs → xs ≡ before ++ (id, old) ∷ after → Changes (with_item (Some item)) (Some id) nodes n2 → length n2 ≡ length nodes → IsChain n2 first last (before ++ (id, item) ∷ after)
  unfolding IsDistinct
  chain_set nodes n2 first last xs before after id old item chain split change same_length =
      let f = slice_get nodes in
      let g = slice_get n2 in
      let whole : IsChainPart f None (before ++ (id, old) ∷ after) None = subst (λ ps. IsChainPart f None ps None) split chain.linked in
      let apart : IsDistinct nat_eq (ids (before ++ (id, old) ∷ after)) = subst (λ ps. IsDistinct nat_eq (ids ps)) split chain.distinct in
      let a0 = linked_left f None before ((id, old) ∷ after) None whole in
      let b0 = linked_right f None before ((id, old) ∷ after) None whole in
      let a1 = linked_away f g (with_item (Some item)) (Some id) change None before (Some id) (first_away before ((id, old) ∷ after) apart) a0 in
      let here = change id ∙ changed_here (with_item (Some item)) id (f id) ∙ ap (option_map (with_item (Some item))) b0.0 in
      let b1 = linked_away f g (with_item (Some item)) (Some id) change (Some id) after None (distinct_right before ((id, old) ∷ after) apart).0 b0.1 in
      record {
        linked = linked_append g None before ((id, item) ∷ after) None a1 (here, b1);
        begins = chain.begins ∙ ap (λ ps. first_or ps None) split ∙ begins_same before after id old item;
        ends = chain.ends ∙ ap (λ ps. last_or ps None) split ∙ last_or-append before ((id, old) ∷ after) None ∙ sym (last_or-append before ((id, item) ∷ after) None);
        distinct = subst (IsDistinct nat_eq) (ids_same before after (id, old) (id, item) refl) apart;
        short = omega (arith, chain.short, ap length split, length-append before ((id, old) ∷ after), length-append before ((id, item) ∷ after));
      }
