-- The writes of whole calls, which go through the slice of a vector and back.
use Rattle.std.proofs.Common.{◌≡◌, ℕ, ◌+◌, List, [], ◌∷◌, ◌++◌, length, take, drop, Option, Some, None, sym, ap, subst, ◌∙◌, arith, length-append, append-nil}
use Rattle.std.proofs.Math.Seq.{take-length, drop-length}
use Rattle.bk_ilist.specs.declared.node.Node.{Node}
use Rattle.bk_ilist.specs.Listing.{first_or, last_or}
use Rattle.bk_ilist.specs.model.Chain.{node, IsChain, with_item, with_next, with_prev, Changes, end_behind}
use Rattle.bk_ilist.proofs.Changes.{chain_inserted, chain_unlinked, chain_set}

module _ {T : Type 0} where
  -- a vector of so many nodes after a write to its slice
  abbrev pub put : ℕ → List (Node T) → List (Node T) → List (Node T)
  put n new old = take n (new ++ drop (length new) old)

  pub written_back : (n : ℕ) (new old : List (Node T)) → length new ≡ n → length old ≡ n → put n new old ≡ new
  written_back n new old is same =
      let whole : drop (length new) old ≡ [] = rw (is, ← same) (drop-length old) in
      rw (whole, append-nil, ← is) (take-length new)

  -- what an insertion leaves
  pub record InsertsNode (nodes put_nodes new_nodes : List (Node T)) (first last : Option ℕ) (pairs : List (ℕ × T)) : Type 0 where
    pub is : put_nodes ≡ new_nodes
    pub chain : IsChain new_nodes first last pairs
    pub grown : length new_nodes ≡ length nodes + 1

  pub inserted_node : (nodes pushed shown forward shown_2 back : List (Node T)) (n : ℕ) (first last first' last' prev next : Option ℕ) (xs before after : List (ℕ × T)) (new : ℕ) (item : T) → IsChain nodes first last xs → xs ≡ before ++ after → prev ≡ last_or before None → next ≡ first_or after None → new ≡ length nodes → pushed ≡ nodes ++ node item prev next ∷ [] → n ≡ length pushed → shown ≡ pushed → length forward ≡ length shown → Changes (with_next (Some new)) prev shown forward → shown_2 ≡ put n forward pushed → length back ≡ length shown_2 → Changes (with_prev (Some new)) next shown_2 back → first' ≡ end_behind prev (Some new) first → last' ≡ end_behind next (Some new) last → InsertsNode nodes (put n back (put n forward pushed)) back first' last' (before ++ (new, item) ∷ after)
  inserted_node nodes pushed shown forward shown_2 back n first last first' last' prev next xs before after new item chain split prev_is next_is new_is pushed_is n_is shown_is forward_length forward_is shown_2_is back_length back_is first_is last_is =
      let grown : length pushed ≡ length nodes + 1 = omega (arith, ap length pushed_is, length-append nodes (node item prev next ∷ [])) in
      let forward_n : length forward ≡ n = omega (arith, ap length shown_is) in
      let one : put n forward pushed ≡ forward = written_back n forward pushed forward_n (sym n_is) in
      let back_n : length back ≡ n = omega (arith, ap length (shown_2_is ∙ one)) in
      let two : put n back (put n forward pushed) ≡ back = ap (put n back) one ∙ written_back n back forward back_n forward_n in
      record {
        is = two;
        chain = chain_inserted nodes forward back first last first' last' prev next xs before after new item chain split prev_is next_is new_is
            (subst (λ old. Changes (with_next (Some new)) prev old forward) (shown_is ∙ pushed_is) forward_is)
            (subst (λ old. Changes (with_prev (Some new)) next old back) (shown_2_is ∙ one) back_is)
            (omega arith) first_is last_is;
        grown = omega arith;
      }

  -- what a change that adds no node leaves
  pub record RewritesLinks (nodes put_nodes new_nodes : List (Node T)) (first last : Option ℕ) (pairs : List (ℕ × T)) : Type 0 where
    pub is : put_nodes ≡ new_nodes
    pub chain : IsChain new_nodes first last pairs
    pub same : length new_nodes ≡ length nodes

  pub unlinked_node : (nodes shown emptied shown_2 forward shown_3 back : List (Node T)) (n : ℕ) (first last first' last' prev next : Option ℕ) (xs before after : List (ℕ × T)) (id : ℕ) (item : T) → IsChain nodes first last xs → xs ≡ before ++ (id, item) ∷ after → prev ≡ last_or before None → next ≡ first_or after None → n ≡ length nodes → shown ≡ nodes → length emptied ≡ length shown → Changes (with_item None) (Some id) shown emptied → shown_2 ≡ put n emptied nodes → length forward ≡ length shown_2 → Changes (with_next next) prev shown_2 forward → shown_3 ≡ put n forward (put n emptied nodes) → length back ≡ length shown_3 → Changes (with_prev prev) next shown_3 back → first' ≡ end_behind prev next first → last' ≡ end_behind next prev last → RewritesLinks nodes (put n back (put n forward (put n emptied nodes))) back first' last' (before ++ after)
  unlinked_node nodes shown emptied shown_2 forward shown_3 back n first last first' last' prev next xs before after id item chain split prev_is next_is n_is shown_is emptied_length emptied_is shown_2_is forward_length forward_is shown_3_is back_length back_is first_is last_is =
      let emptied_n : length emptied ≡ n = omega (arith, ap length shown_is) in
      let one : put n emptied nodes ≡ emptied = written_back n emptied nodes emptied_n (sym n_is) in
      let forward_n : length forward ≡ n = omega (arith, ap length (shown_2_is ∙ one)) in
      let two : put n forward (put n emptied nodes) ≡ forward = ap (put n forward) one ∙ written_back n forward emptied forward_n emptied_n in
      let back_n : length back ≡ n = omega (arith, ap length (shown_3_is ∙ two)) in
      let three : put n back (put n forward (put n emptied nodes)) ≡ back = ap (put n back) two ∙ written_back n back forward back_n forward_n in
      record {
        is = three;
        chain = chain_unlinked nodes emptied forward back first last first' last' prev next xs before after id item chain split prev_is next_is
            (subst (λ old. Changes (with_item None) (Some id) old emptied) shown_is emptied_is)
            (subst (λ old. Changes (with_next next) prev old forward) (shown_2_is ∙ one) forward_is)
            (subst (λ old. Changes (with_prev prev) next old back) (shown_3_is ∙ two) back_is)
            (omega arith) first_is last_is;
        same = omega arith;
      }

  pub item_set : (nodes shown new : List (Node T)) (n : ℕ) (first last : Option ℕ) (xs before after : List (ℕ × T)) (id : ℕ) (old item : T) → IsChain nodes first last xs → xs ≡ before ++ (id, old) ∷ after → n ≡ length nodes → shown ≡ nodes → length new ≡ length shown → Changes (with_item (Some item)) (Some id) shown new → RewritesLinks nodes (put n new nodes) new first last (before ++ (id, item) ∷ after)
  item_set nodes shown new n first last xs before after id old item chain split n_is shown_is new_length change =
      let new_n : length new ≡ n = omega (arith, ap length shown_is) in
      record {
        is = written_back n new nodes new_n (sym n_is);
        chain = chain_set nodes new first last xs before after id old item chain split (subst (λ found. Changes (with_item (Some item)) (Some id) found new) shown_is change) (omega arith);
        same = omega arith;
      }
