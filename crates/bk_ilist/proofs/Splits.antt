-- How callers find their way: the splits at an id.
use Rattle.std.proofs.Common.{◌≡◌, ℕ, suc, zero, List, [], ◌∷◌, ◌++◌, Some, Contains, refl, sym, ap, subst, ◌∙◌, arith, append_assoc, true≢false}
use Rattle.std.proofs.lemmas.Bool.{eq-eqb}
use Rattle.std.proofs.lemmas.Option.{same_Some, none-some}
use Rattle.std.specs.Prelude.{nat_eq}
use Rattle.std.specs.List.{IsDistinct}
use Rattle.bk_ilist.specs.Listing.{ids, first_id, HasId}
use Rattle.bk_ilist.proofs.Distinct.{Away}

module _ {T : Type 0} where
  cons_head : (x y : ℕ × T) (xs ys : List (ℕ × T)) → x ∷ xs ≡ y ∷ ys → x ≡ y
  cons_head x y xs ys same = cc

  -- a list that falls apart at an id has that id
  pub has_id : (pairs before after : List (ℕ × T)) (id : ℕ) (item : T) → pairs ≡ before ++ (id, item) ∷ after → HasId pairs id
  has_id pairs before after id item split = record { before = before; item = item; after = after; split = split }

  -- what `first` answers
  pub first_has_id : (pairs : List (ℕ × T)) (id : ℕ) → Some id ≡ first_id pairs → HasId pairs id
  first_has_id [] id is = absurd (none-some id (sym is))
  first_has_id (p ∷ pairs) id is =
      record { before = []; item = p.1; after = pairs; split = ap (λ k. (k, p.1) ∷ pairs) (sym (same_Some id p.0 is)) }

  -- what `next` answers, behind a split
  pub next_has_id : (pairs before after : List (ℕ × T)) (p : ℕ × T) (id : ℕ) → pairs ≡ before ++ p ∷ after → Some id ≡ first_id after → HasId pairs id
  next_has_id pairs before [] p id split is = absurd (none-some id (sym is))
  next_has_id pairs before (q ∷ after) p id split is =
      record {
        before = before ++ p ∷ [];
        item = q.1;
        after = after;
        split = split ∙ sym (append_assoc before (p ∷ []) (q ∷ after)) ∙ ap (λ k. (before ++ p ∷ []) ++ (k, q.1) ∷ after) (sym (same_Some id q.0 is));
      }

  -- an id that is among those of the list
  pub contains_has_id : (pairs : List (ℕ × T)) (id : ℕ) → Contains (ids pairs) id → HasId pairs id
  contains_has_id [] id (k, below, is) = absurd (omega arith)
  contains_has_id (p ∷ pairs) id (zero, below, is) =
      record { before = []; item = p.1; after = pairs; split = ap (λ k. (k, p.1) ∷ pairs) is }
  contains_has_id (p ∷ pairs) id (suc k, below, is) =
      let rest = contains_has_id pairs id (k, omega arith, is) in
      record { before = p ∷ rest.before; item = rest.item; after = rest.after; split = ap (λ ps. p ∷ ps) rest.split }

  not_among : (id : ℕ) (item : T) (before after : List (ℕ × T)) → Away (Some id) (before ++ (id, item) ∷ after) → ⊥
  not_among id item [] after away = true≢false (sym (eq-eqb id id refl) ∙ away.0)
  not_among id item (x ∷ before) after away = not_among id item before after away.1

  -- two splits of distinct ids at one id are the same
  pub record SameSplit (before after before' after' : List (ℕ × T)) (item item' : T) : Type 0 where
    pub before_is : before ≡ before'
    pub item_is : item ≡ item'
    pub after_is : after ≡ after'

  pub one_split : (before after before' after' : List (ℕ × T)) (id : ℕ) (item item' : T) → IsDistinct nat_eq (ids (before ++ (id, item) ∷ after)) → before ++ (id, item) ∷ after ≡ before' ++ (id, item') ∷ after' → SameSplit before after before' after' item item'
  unfolding IsDistinct
  one_split [] after [] after' id item item' apart same =
      record { before_is = refl; item_is = ap (λ p. p.1) (cons_head (id, item) (id, item') after after' same); after_is = cc }
  one_split [] after (y ∷ before') after' id item item' apart same =
      let tail : after ≡ before' ++ (id, item') ∷ after' = cc in
      absurd (not_among id item' before' after' (subst (Away (Some id)) tail apart.0))
  one_split (x ∷ before) after [] after' id item item' apart same =
      let head : x.0 ≡ id = ap (λ p. p.0) (cons_head x (id, item') _ _ same) in
      absurd (not_among id item before after (subst (λ k. Away (Some k) (before ++ (id, item) ∷ after)) head apart.0))
  one_split (x ∷ before) after (y ∷ before') after' id item item' apart same =
      let tail : before ++ (id, item) ∷ after ≡ before' ++ (id, item') ∷ after' = cc in
      let head : x ≡ y = cons_head x y _ _ same in
      let rest = one_split before after before' after' id item item' apart.1 tail in
      record { before_is = ap (λ p. p ∷ before) head ∙ ap (λ ps. y ∷ ps) rest.before_is; item_is = rest.item_is; after_is = rest.after_is }

  -- an id behind a pair
  pub has_id_cons : (p : ℕ × T) (pairs : List (ℕ × T)) (id : ℕ) → HasId pairs id → HasId (p ∷ pairs) id
  has_id_cons p pairs id has =
      record { before = p ∷ has.before; item = has.item; after = has.after; split = ap (λ ps. p ∷ ps) has.split }

  -- an id in front
  pub has_id_head : (p : ℕ × T) (pairs : List (ℕ × T)) (id : ℕ) → p.0 ≡ id → HasId (p ∷ pairs) id
  has_id_head p pairs id same =
      record { before = []; item = p.1; after = pairs; split = ap (λ k. (k, p.1) ∷ pairs) same }

  -- an id of a list that is the same
  pub has_id_along : (xs ys : List (ℕ × T)) (id : ℕ) → xs ≡ ys → HasId xs id → HasId ys id
  has_id_along xs ys id same has =
      record { before = has.before; item = has.item; after = has.after; split = sym same ∙ has.split }
