-- The walk over a list from its last instruction on.
use Rattle.std.proofs.Common.{◌≡◌, ℕ, suc, ◌+◌, ◌<◌, Bool, true, false, List, [], ◌∷◌, ◌++◌, length, Option, Some, None, All, refl, sym, ap, ◌∙◌, subst, arith, append_assoc}
use Rattle.std.specs.Prelude.{nat_eq, if◌then◌else◌}
use Rattle.std.specs.List.{IsDistinct, AllByRecursion}
use Rattle.std.proofs.lemmas.Bool.{eq-eqb}
use Rattle.std.proofs.lemmas.List.{append-nil}
use Rattle.std.proofs.lemmas.Option.{none-some, same_Some}
use Rattle.std.proofs.lemmas.List.Elements.{All-head, All-tail, All-from_recursion}
use Rattle.std.proofs.lemmas.Map.Keys.{IsDistinct-head, IsDistinct-tail}
use Rattle.std.proofs.Math.Path.{fun_ext}
use Rattle.bk_bits.specs.Sets.{has}
use Rattle.bk_ilist.specs.Listing.{ids, items, last_or, last_id, HasId, AtId}
use Rattle.suifvm_ir.specs.declared.insn.VmInsn.{VmInsn}
use Rattle.flow_clean.specs.Dead.{is_unwanted, is_wanted, cleaned}
use Rattle.flow_clean.specs.model.Walks.{is_wanted_before, IsVisited, IsCleanedFrom, places_before, count_up_to}

abbrev pub Pairs : Type 0
Pairs = List (ℕ × VmInsn)

-- ---- the last pair

pub record IsLast (front : Pairs) (id : ℕ) : Type 0 where
  pub before : Pairs
  pub item : VmInsn
  pub is : front ≡ before ++ (id, item) ∷ []

last_more : (p : ℕ × VmInsn) (rest : Pairs) (id : ℕ) → last_or rest (Some p.0) ≡ Some id → IsLast (p ∷ rest) id
last_more p [] id e = record { before = []; item = p.1; is = ap (λ n. (n, p.1) ∷ []) (same_Some p.0 id e) }
last_more p (q ∷ rest) id e = let r = last_more q rest id e in record { before = p ∷ r.before; item = r.item; is = ap (λ l. p ∷ l) r.is }

pub last_there : (front : Pairs) (id : ℕ) → Some id ≡ last_id front → IsLast front id
last_there [] id e = absurd (none-some id (sym e))
last_there (p ∷ rest) id e = last_more p rest id (sym e)

some_last : (rest : Pairs) (id : ℕ) → None ≡ last_or rest (Some id) → ⊥
some_last [] id e = none-some id e
some_last (p ∷ rest) id e = some_last rest p.0 e

none_left : (front : Pairs) → None ≡ last_id front → front ≡ []
none_left [] e = refl
none_left (p ∷ rest) e = absurd (some_last rest p.0 e)

middle : (P : VmInsn → Type 0) (before : Pairs) (id : ℕ) (item : VmInsn) (after : Pairs) → All P (items (before ++ (id, item) ∷ after)) → P item
middle P [] id item after h = All-head P item (items after) h
middle P (p ∷ before) id item after h = middle P before id item after (All-tail P p.1 (items (before ++ (id, item) ∷ after)) h)

-- ---- how far the walk has to go

apart_middle : (front : Pairs) (id k : ℕ) (item : VmInsn) (after : Pairs) → All (λ y. nat_eq k y ≡ false) (ids (front ++ (id, item) ∷ after)) → nat_eq k id ≡ false
apart_middle [] id k item after all = All-head (λ y. nat_eq k y ≡ false) id (ids after) all
apart_middle (p ∷ front) id k item after all = apart_middle front id k item after (All-tail (λ y. nat_eq k y ≡ false) p.0 (ids (front ++ (id, item) ∷ after)) all)

length_more : (ps : Pairs) (p : ℕ × VmInsn) → length (ps ++ p ∷ []) ≡ length ps + 1
length_more [] p = refl
length_more (q ∷ ps) p = let rest = length_more ps p in omega (arith, rest)

apart_first : (before : Pairs) (id k : ℕ) (item : VmInsn) (after : Pairs) → AllByRecursion (λ y. nat_eq k y ≡ false) (ids (before ++ (id, item) ∷ after)) → nat_eq k id ≡ false
apart_first before id k item after h =
    apart_middle before id k item after (All-from_recursion (λ y. nat_eq k y ≡ false) (ids (before ++ (id, item) ∷ after)) h)

places : (before : Pairs) (id : ℕ) (item : VmInsn) (after : Pairs) → IsDistinct nat_eq (ids (before ++ (id, item) ∷ after)) → places_before (before ++ (id, item) ∷ after) id ≡ length before
places [] id item after apart = ap (λ b. if b then 0 else suc (places_before after id)) (eq-eqb id id refl)
places (p ∷ before) id item after apart =
    ap (λ b. if b then 0 else suc (places_before (before ++ (id, item) ∷ after) id))
    (apart_first before id p.0 item after (IsDistinct-head nat_eq p.0 (ids (before ++ (id, item) ∷ after)) apart))
    ∙ ap suc (places before id item after (IsDistinct-tail nat_eq p.0 (ids (before ++ (id, item) ∷ after)) apart))

-- ---- the steps

module _ (bottom : ℕ → Bool) (registers : ℕ) (pairs : Pairs) where
  pub begins : (at : Option ℕ) (kept : List VmInsn) (wanted : List Bool) → at ≡ last_id pairs → kept ≡ [] → bottom ≡ has wanted → length wanted ≡ registers →
      IsCleanedFrom bottom registers pairs at kept wanted
  begins at kept wanted last none bottom_is bound = record {
    front = pairs;
    back = [];
    split = sym (append-nil pairs);
    place = last;
    kept_is = none;
    members = λ k. sym (ap (λ f. f k) bottom_is) ∙ sym (ap (λ l. is_wanted bottom l k) none);
    bound = bound;
  }

  module _ (id : ℕ) (kept : List VmInsn) (wanted : List Bool) (c : IsCleanedFrom bottom registers pairs (Some id) kept wanted) where
    last : IsLast c.front id
    last = last_there c.front id c.place

    split : pairs ≡ last.before ++ (id, last.item) ∷ c.back
    split = c.split ∙ ap (λ l. l ++ c.back) last.is ∙ append_assoc last.before ((id, last.item) ∷ []) c.back

    pub there : HasId pairs id
    there = record { before = last.before; item = last.item; after = c.back; split = split }

    pub item_inside : (P : VmInsn → Type 0) (i : VmInsn) → AtId pairs id (λ before item after. i ≡ item) → All P (items pairs) → P i
    item_inside P i is all = subst P (sym (is last.before c.back last.item split)) (middle P last.before id last.item c.back (subst (λ l. All P (items l)) split all))

    falls : (prev : Option ℕ) → AtId pairs id (λ before item after. prev ≡ last_id before) → IsDistinct nat_eq (ids pairs) → count_up_to pairs prev < count_up_to pairs (Some id)
    falls prev is apart =
        subst (λ o. count_up_to pairs o < count_up_to pairs (Some id)) (sym (is last.before c.back last.item split))
        (by_place (last_id last.before) refl)
      where
        here : places_before pairs id ≡ length last.before
        here = ap (λ l. places_before l id) split ∙ places last.before id last.item c.back (subst (λ l. IsDistinct nat_eq (ids l)) split apart)

        by_place : (o : Option ℕ) → o ≡ last_id last.before → count_up_to pairs o < count_up_to pairs (Some id)
        by_place None e = omega arith
        by_place (Some k) e =
            let l = last_there last.before k e in
            let cut : pairs ≡ l.before ++ (k, l.item) ∷ (id, last.item) ∷ c.back =
            split ∙ ap (λ ps. ps ++ (id, last.item) ∷ c.back) l.is ∙ append_assoc l.before ((k, l.item) ∷ []) ((id, last.item) ∷ c.back) in
            let there : places_before pairs k ≡ length l.before =
            ap (λ ps. places_before ps k) cut ∙ places l.before k l.item ((id, last.item) ∷ c.back) (subst (λ ps. IsDistinct nat_eq (ids ps)) cut apart) in
            let more : length last.before ≡ length l.before + 1 = ap length l.is ∙ length_more l.before (k, l.item) in
            omega (arith, here, there, more)

    pub steps : (prev : Option ℕ) (i : VmInsn) (kept_new : List VmInsn) (wanted_new : List Bool) → AtId pairs id (λ before item after. prev ≡ last_id before) →
        AtId pairs id (λ before item after. i ≡ item) → IsVisited i kept kept_new wanted wanted_new → IsCleanedFrom bottom registers pairs prev kept_new wanted_new
    steps prev i kept_new wanted_new prev_is item_is v = record {
      front = last.before;
      back = (id, last.item) ∷ c.back;
      split = split;
      place = prev_is last.before c.back last.item split;
      kept_is =
          v.kept_is ∙ ap (λ w. if is_unwanted w i then kept else i ∷ kept) wants
          ∙ ap (λ l. if is_unwanted (is_wanted bottom l) i then l else i ∷ l) c.kept_is
          ∙ ap (λ j. cleaned bottom (j ∷ items c.back)) (item_is last.before c.back last.item split);
      members = λ k. by_choice k (is_unwanted (has wanted) i) refl;
      bound = v.bound ∙ c.bound;
    }
      where
        wants : has wanted ≡ is_wanted bottom kept
        wants = fun_ext (λ k. c.members k)

        by_choice : (k : ℕ) (b : Bool) → is_unwanted (has wanted) i ≡ b → has wanted_new k ≡ is_wanted bottom kept_new k
        by_choice k true e =
            v.members k ∙ ap (λ b. if b then has wanted k else is_wanted_before (has wanted) i k) e ∙ c.members k
            ∙ sym (ap (λ l. is_wanted bottom l k) (v.kept_is ∙ ap (λ b. if b then kept else i ∷ kept) e))
        by_choice k false e =
            v.members k ∙ ap (λ b. if b then has wanted k else is_wanted_before (has wanted) i k) e
            ∙ ap (λ w. is_wanted_before w i k) wants
            ∙ sym (ap (λ l. is_wanted bottom l k) (v.kept_is ∙ ap (λ b. if b then kept else i ∷ kept) e))

  pub ends : (kept : List VmInsn) (wanted : List Bool) → IsCleanedFrom bottom registers pairs None kept wanted → kept ≡ cleaned bottom (items pairs)
  ends kept wanted c =
      c.kept_is ∙ ap (λ l. cleaned bottom (items l)) (sym (c.split ∙ ap (λ l. l ++ c.back) (none_left c.front c.place)))

  -- ---- where the walk stands

  pub at_some : (at : Option ℕ) (id : ℕ) (kept : List VmInsn) (wanted : List Bool) → at ≡ Some id → IsCleanedFrom bottom registers pairs at kept wanted → IsCleanedFrom bottom registers pairs (Some id) kept wanted
  at_some at id kept wanted is c = subst (λ o. IsCleanedFrom bottom registers pairs o kept wanted) is c

  pub at_none : (at : Option ℕ) (kept : List VmInsn) (wanted : List Bool) → at ≡ None → IsCleanedFrom bottom registers pairs at kept wanted → IsCleanedFrom bottom registers pairs None kept wanted
  at_none at kept wanted is c = subst (λ o. IsCleanedFrom bottom registers pairs o kept wanted) is c

  pub smaller : (at : Option ℕ) (id : ℕ) → at ≡ Some id → (kept : List VmInsn) (wanted : List Bool) → IsCleanedFrom bottom registers pairs at kept wanted → (prev : Option ℕ) →
      AtId pairs id (λ before item after. prev ≡ last_id before) → IsDistinct nat_eq (ids pairs) → count_up_to pairs prev < count_up_to pairs at
  smaller at id is kept wanted c prev prev_is apart =
      subst (λ o. count_up_to pairs prev < count_up_to pairs o) (sym is) (falls id kept wanted (at_some at id kept wanted is c) prev prev_is apart)
