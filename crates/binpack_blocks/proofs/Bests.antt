-- The best of the free registers.
use Rattle.std.proofs.Common.{◌≡◌, ℕ, ◌+◌, ◌<◌, ◌≤◌, ◌==◌, ◌&&◌, ◌||◌, nat_lt, List, [], ◌∷◌, Bool, true, false, cond, not, Option, Some, None, if◌then◌else◌, refl, sym, ap, ◌∙◌, subst, ⊎_elim, filter, length, drop, get_or, arith}
use Rattle.std.specs.Prelude.{All, IfSome, option_map}
use Rattle.std.specs.List.{best_of, list_all}
use Rattle.std.proofs.lemmas.Bool.{agree_below_at, eqb-true, eq-eqb, ltb-true, or_left, or_right, or_cases, cond_both}
use Rattle.std.proofs.lemmas.Option.{same_Some}
use Rattle.std.proofs.lemmas.List.{at_drop_more, at_drop_all}
use Rattle.std.proofs.lemmas.List.Elements.{All-get_or, All-nil, All-cons}
use Rattle.temp_ir.specs.Fixed.{has_number}
use Rattle.alloc_model.specs.Faithful.{given_registers}
use Rattle.alloc_rules.specs.Visits.{reaches, is_shorter, is_better, best_among}
use Rattle.binpack_blocks.specs.declared.spans.FreeRegister.{FreeRegister}
use Rattle.binpack_blocks.specs.model.Bests.{best_register, free_register, better, weighed, best_from}
use Rattle.binpack_blocks.proofs.Holders.{not_both}

-- ---- the registers that are given

pub given_has : (r : ℕ) → r < 26 → has_number given_registers r ≡ true
given_has r w = agree_below_at (λ q. has_number given_registers q) (λ q. true) 26 r refl w

and_front : (b c : Bool) → (b && c) ≡ true → b ≡ true
and_front true c e = refl
and_front false c e = e

and_back : (b c : Bool) → (b && c) ≡ true → c ≡ true
and_back true c e = e
and_back false c e = absurd (cc)

all_tested : (xs : List ℕ) → list_all (λ q. nat_lt q 26) xs ≡ true → All (λ q. q < 26) xs
all_tested [] e = All-nil (λ q. q < 26)
all_tested (x ∷ xs) e = All-cons (λ q. q < 26) x xs (ltb-true x 26 (and_front (nat_lt x 26) (list_all (λ q. nat_lt q 26) xs) e)) (all_tested xs (and_back (nat_lt x 26) (list_all (λ q. nat_lt q 26) xs) e))

pub all_given : (xs : List ℕ) → xs ≡ given_registers → All (λ q. q < 26) xs
all_given xs is = subst (λ ys. All (λ q. q < 26) ys) (sym is) (all_tested given_registers refl)

tested_at : (xs : List ℕ) (r : ℕ) → list_all (λ q. nat_lt q 26) xs ≡ true → has_number xs r ≡ true → r < 26
tested_at [] r e h = absurd (cc)
tested_at (x ∷ xs) r e h = ⊎_elim
    (λ (here : (x == r) ≡ true). subst (λ q. q < 26) (eqb-true x r here) (ltb-true x 26 (and_front (nat_lt x 26) (list_all (λ q. nat_lt q 26) xs) e)))
    (λ (there : has_number xs r ≡ true). tested_at xs r (and_back (nat_lt x 26) (list_all (λ q. nat_lt q 26) xs) e) there)
    (or_cases (x == r) (has_number xs r) h)

pub given_below : (r : ℕ) → has_number given_registers r ≡ true → r < 26
given_below r h = tested_at given_registers r refl h

-- ---- one after the other

pub here_given : (registers : List ℕ) (i r : ℕ) → All (λ q. q < 26) registers → i < length registers → r ≡ get_or registers i r → r < 26
here_given registers i r all within is = subst (λ q. q < 26) (sym is) (All-get_or (λ q. q < 26) registers i r within all)

pub next_weighed : (last : ℕ) (span : ℕ → Option ℕ) (free : ℕ → Bool) (registers : List ℕ) (i r : ℕ) (start best new : Option FreeRegister) → i < length registers → r ≡ get_or registers i r →
    new ≡ weighed last span free best r → best_from last span free best (drop i registers) ≡ best_from last span free start registers →
    best_from last span free new (drop (i + 1) registers) ≡ best_from last span free start registers
unfolding best_from
next_weighed last span free registers i r start best new within is e before =
    ap (λ b. best_from last span free b (drop (i + 1) registers)) (e ∙ ap (weighed last span free best) is)
    ∙ sym (at_drop_more (best_from last span free best) registers i r within) ∙ before

pub all_weighed : (last : ℕ) (span : ℕ → Option ℕ) (free : ℕ → Bool) (registers : List ℕ) (i : ℕ) (start best : Option FreeRegister) → length registers ≤ i →
    best_from last span free best (drop i registers) ≡ best_from last span free start registers → best ≡ best_from last span free start registers
unfolding best_from
all_weighed last span free registers i start best past before = sym (at_drop_all (best_from last span free best) registers i past) ∙ before

-- ---- it is the best one

module _ (last : ℕ) (span : ℕ → Option ℕ) (free : ℕ → Bool) where
  one_more : (a x : ℕ) (xs : List ℕ) (b c : Bool) → free x ≡ b → is_better last (span x) (span a) ≡ c →
      ((y : ℕ) → best_from last span free (Some (free_register span y)) xs ≡ Some (free_register span (best_of (λ q p. is_better last (span q) (span p)) y (filter free xs)))) →
      best_from last span free (Some (free_register span a)) (x ∷ xs) ≡ Some (free_register span (best_of (λ q p. is_better last (span q) (span p)) a (filter free (x ∷ xs))))
  unfolding best_from
  one_more a x xs true true e f rest =
      ap (λ v. best_from last span free (if v then Some (if is_better last (span x) (span a) then free_register span x else free_register span a) else Some (free_register span a)) xs) e
      ∙ ap (λ v. best_from last span free (Some (if v then free_register span x else free_register span a)) xs) f
      ∙ rest x
      ∙ ap (λ v. Some (free_register span (best_of (λ q p. is_better last (span q) (span p)) (cond v x a) (filter free xs)))) (sym f)
      ∙ ap (λ v. Some (free_register span (best_of (λ q p. is_better last (span q) (span p)) a (cond v (x ∷ filter free xs) (filter free xs))))) (sym e)
  one_more a x xs true false e f rest =
      ap (λ v. best_from last span free (if v then Some (if is_better last (span x) (span a) then free_register span x else free_register span a) else Some (free_register span a)) xs) e
      ∙ ap (λ v. best_from last span free (Some (if v then free_register span x else free_register span a)) xs) f
      ∙ rest a
      ∙ ap (λ v. Some (free_register span (best_of (λ q p. is_better last (span q) (span p)) (cond v x a) (filter free xs)))) (sym f)
      ∙ ap (λ v. Some (free_register span (best_of (λ q p. is_better last (span q) (span p)) a (cond v (x ∷ filter free xs) (filter free xs))))) (sym e)
  one_more a x xs false c e f rest =
      ap (λ v. best_from last span free (if v then Some (if is_better last (span x) (span a) then free_register span x else free_register span a) else Some (free_register span a)) xs) e
      ∙ rest a
      ∙ ap (λ v. Some (free_register span (best_of (λ q p. is_better last (span q) (span p)) a (cond v (x ∷ filter free xs) (filter free xs))))) (sym e)

  best_behind : (xs : List ℕ) (a : ℕ) → best_from last span free (Some (free_register span a)) xs ≡ Some (free_register span (best_of (λ q p. is_better last (span q) (span p)) a (filter free xs)))
  unfolding best_from
  best_behind [] a = refl
  best_behind (x ∷ xs) a = one_more a x xs (free x) (is_better last (span x) (span a)) refl refl (best_behind xs)

  first_one : (x : ℕ) (xs : List ℕ) (b : Bool) → free x ≡ b → best_from last span free None xs ≡ option_map (free_register span) (best_register last span free xs) →
      best_from last span free None (x ∷ xs) ≡ option_map (free_register span) (best_register last span free (x ∷ xs))
  unfolding best_from best_register
  first_one x xs true e rest =
      ap (λ v. best_from last span free (if v then Some (free_register span x) else None) xs) e
      ∙ best_behind xs x
      ∙ ap (λ v. option_map (free_register span) (best_among last span (cond v (x ∷ filter free xs) (filter free xs)))) (sym e)
  first_one x xs false e rest =
      ap (λ v. best_from last span free (if v then Some (free_register span x) else None) xs) e
      ∙ rest
      ∙ ap (λ v. option_map (free_register span) (best_among last span (cond v (x ∷ filter free xs) (filter free xs)))) (sym e)

  pub best_is : (xs : List ℕ) → best_from last span free None xs ≡ option_map (free_register span) (best_register last span free xs)
  unfolding best_from best_register
  best_is [] = refl
  best_is (x ∷ xs) = first_one x xs (free x) refl (best_is xs)

  -- ---- it is one of them

  filter_in : (xs : List ℕ) (r : ℕ) → has_number (filter free xs) r ≡ true → (has_number xs r ≡ true) × (free r ≡ true)
  filter_in [] r h = absurd (cc)
  filter_in (x ∷ xs) r h = go (free x) refl (filter_in xs r)
    where
      go : (b : Bool) → free x ≡ b → (has_number (filter free xs) r ≡ true → (has_number xs r ≡ true) × (free r ≡ true)) → (has_number (x ∷ xs) r ≡ true) × (free r ≡ true)
      go true e rest = ⊎_elim
          (λ (here : (x == r) ≡ true). (or_left (x == r) (has_number xs r) here, ap free (sym (eqb-true x r here)) ∙ e))
          (λ (there : has_number (filter free xs) r ≡ true). (or_right (x == r) (has_number xs r) (rest there).0, (rest there).1))
          (or_cases (x == r) (has_number (filter free xs) r) (ap (λ v. has_number (cond v (x ∷ filter free xs) (filter free xs)) r) (sym e) ∙ h))
      go false e rest =
          let there = rest (ap (λ v. has_number (cond v (x ∷ filter free xs) (filter free xs)) r) (sym e) ∙ h) in
          (or_right (x == r) (has_number xs r) there.0, there.1)

  in_filter : (xs : List ℕ) (r : ℕ) → has_number xs r ≡ true → free r ≡ true → has_number (filter free xs) r ≡ true
  in_filter [] r h is = h
  in_filter (x ∷ xs) r h is = go (free x) refl (λ g. in_filter xs r g is)
    where
      go : (b : Bool) → free x ≡ b → (has_number xs r ≡ true → has_number (filter free xs) r ≡ true) → has_number (filter free (x ∷ xs)) r ≡ true
      go true e rest =
          ap (λ v. has_number (cond v (x ∷ filter free xs) (filter free xs)) r) e
          ∙ ⊎_elim
          (λ (here : (x == r) ≡ true). or_left (x == r) (has_number (filter free xs) r) here)
          (λ (there : has_number xs r ≡ true). or_right (x == r) (has_number (filter free xs) r) (rest there))
          (or_cases (x == r) (has_number xs r) h)
      go false e rest =
          ap (λ v. has_number (cond v (x ∷ filter free xs) (filter free xs)) r) e
          ∙ ⊎_elim
          (λ (here : (x == r) ≡ true). not_both (free x) (ap free (eqb-true x r here) ∙ is) e)
          (λ (there : has_number xs r ≡ true). rest there)
          (or_cases (x == r) (has_number xs r) h)

  best_keeps : (P : ℕ → Type 0) (ys : List ℕ) (a : ℕ) → P a → ((r : ℕ) → has_number ys r ≡ true → P r) → P (best_of (λ q p. is_better last (span q) (span p)) a ys)
  best_keeps P [] a here others = here
  best_keeps P (y ∷ ys) a here others =
      best_keeps P ys (cond (is_better last (span y) (span a)) y a)
      (cond_both (is_better last (span y) (span a)) y a P (λ e. others y (or_left (y == y) (has_number ys y) (eq-eqb y y refl))) (λ e. here))
      (λ r h. others r (or_right (y == r) (has_number ys r) h))

  among_keeps : (P : ℕ → Type 0) (ys : List ℕ) (r : ℕ) → Some r ≡ best_among last span ys → ((q : ℕ) → has_number ys q ≡ true → P q) → P r
  among_keeps P [] r e each = absurd (cc)
  among_keeps P (y ∷ ys) r e each =
      let same : r ≡ best_of (λ q p. is_better last (span q) (span p)) y ys = same_Some r _ e in
      subst P (sym same) (best_keeps P ys y (each y (or_left (y == y) (has_number ys y) (eq-eqb y y refl))) (λ q h. each q (or_right (y == q) (has_number ys q) h)))

  pub best_holds : (P : ℕ → Type 0) (xs : List ℕ) (r : ℕ) → Some r ≡ best_register last span free xs → ((q : ℕ) → has_number xs q ≡ true → free q ≡ true → P q) → P r
  unfolding best_register
  best_holds P xs r e each = among_keeps P (filter free xs) r e (λ q h. let is = filter_in xs q h in each q is.0 is.1)

  -- what was found is the best one
  pub found_best : (o : Option ℕ) (f : FreeRegister) → Some f ≡ option_map (free_register span) o → (Some f.register ≡ o) × (f.end ≡ span f.register)
  found_best None f e = absurd (cc)
  found_best (Some r) f e =
      let same : f ≡ free_register span r = same_Some f (free_register span r) e in
      (ap (λ g. Some g.register) same, ap (λ g. g.end) same ∙ ap (λ g. span g.register) (sym same))

  pub found_none : (o : Option ℕ) → None ≡ option_map (free_register span) o → o ≡ None
  found_none None e = refl
  found_none (Some r) e = absurd (cc)

  pub best_some : (P : ℕ → Type 0) (xs : List ℕ) (o : Option FreeRegister) → o ≡ option_map (free_register span) (best_register last span free xs) →
      ((q : ℕ) → has_number xs q ≡ true → free q ≡ true → P q) → IfSome o (λ f. P f.register)
  best_some P xs None e each = tt
  best_some P xs (Some f) e each = best_holds P xs f.register (found_best (best_register last span free xs) f e).0 each

  -- ---- where the best one does not reach a point, none does

  short : (e f : Option ℕ) → is_better last e f ≡ true → reaches last e ≡ false → reaches last f ≡ false
  short e f better is = go (reaches last e) (reaches last f) refl refl
    where
      go : (b c : Bool) → reaches last e ≡ b → reaches last f ≡ c → reaches last f ≡ false
      go b false g h = h
      go true true g h = not_both (reaches last e) g is
      go false true g h =
          not_both (is_better last e f) better
          (ap (λ v. if v then not (reaches last f) || is_shorter e f else not (reaches last f) && is_shorter f e) g ∙ ap (λ v. not v && is_shorter f e) h)

  shorter : (e f : Option ℕ) → is_better last e f ≡ false → reaches last f ≡ false → reaches last e ≡ false
  shorter e f worse is = go (reaches last e) refl
    where
      go : (b : Bool) → reaches last e ≡ b → reaches last e ≡ false
      go false g = g
      go true g =
          not_both (is_better last e f)
          (ap (λ v. if v then not (reaches last f) || is_shorter e f else not (reaches last f) && is_shorter f e) g ∙ ap (λ v. not v || is_shorter e f) is) worse

  none_beyond : (ys : List ℕ) (a : ℕ) → reaches last (span (best_of (λ q p. is_better last (span q) (span p)) a ys)) ≡ false →
      (reaches last (span a) ≡ false) × ((r : ℕ) → has_number ys r ≡ true → reaches last (span r) ≡ false)
  none_beyond [] a e = (e, λ r h. absurd (cc))
  none_beyond (y ∷ ys) a e = go (is_better last (span y) (span a)) refl (none_beyond ys y) (none_beyond ys a)
    where
      go : (b : Bool) → is_better last (span y) (span a) ≡ b →
          (reaches last (span (best_of (λ q p. is_better last (span q) (span p)) y ys)) ≡ false → (reaches last (span y) ≡ false) × ((r : ℕ) → has_number ys r ≡ true → reaches last (span r) ≡ false)) →
          (reaches last (span (best_of (λ q p. is_better last (span q) (span p)) a ys)) ≡ false → (reaches last (span a) ≡ false) × ((r : ℕ) → has_number ys r ≡ true → reaches last (span r) ≡ false)) →
          (reaches last (span a) ≡ false) × ((r : ℕ) → has_number (y ∷ ys) r ≡ true → reaches last (span r) ≡ false)
      go true f here there =
          let is = here (ap (λ v. reaches last (span (best_of (λ q p. is_better last (span q) (span p)) (cond v y a) ys))) (sym f) ∙ e) in (
            short (span y) (span a) f is.0,
            λ r h. ⊎_elim
                (λ (same : (y == r) ≡ true). ap (λ q. reaches last (span q)) (sym (eqb-true y r same)) ∙ is.0)
                (λ (in_rest : has_number ys r ≡ true). is.1 r in_rest)
                (or_cases (y == r) (has_number ys r) h),
          )
      go false f here there =
          let is = there (ap (λ v. reaches last (span (best_of (λ q p. is_better last (span q) (span p)) (cond v y a) ys))) (sym f) ∙ e) in (
            is.0,
            λ r h. ⊎_elim
                (λ (same : (y == r) ≡ true). ap (λ q. reaches last (span q)) (sym (eqb-true y r same)) ∙ shorter (span y) (span a) f is.0)
                (λ (in_rest : has_number ys r ≡ true). is.1 r in_rest)
                (or_cases (y == r) (has_number ys r) h),
          )

  among_none : (ys : List ℕ) (b : ℕ) → Some b ≡ best_among last span ys → reaches last (span b) ≡ false → (r : ℕ) → has_number ys r ≡ true → reaches last (span r) ≡ false
  among_none [] b e short r h = absurd (cc)
  among_none (y ∷ ys) b e short r h =
      let same : b ≡ best_of (λ q p. is_better last (span q) (span p)) y ys = same_Some b _ e in
      let is = none_beyond ys y (ap (λ q. reaches last (span q)) (sym same) ∙ short) in
      ⊎_elim
      (λ (here : (y == r) ≡ true). ap (λ q. reaches last (span q)) (sym (eqb-true y r here)) ∙ is.0)
      (λ (there : has_number ys r ≡ true). is.1 r there)
      (or_cases (y == r) (has_number ys r) h)

  pub none_reaches : (xs : List ℕ) (b r : ℕ) → Some b ≡ best_register last span free xs → reaches last (span b) ≡ false → has_number xs r ≡ true → free r ≡ true → reaches last (span r) ≡ false
  unfolding best_register
  none_reaches xs b r e short h is = among_none (filter free xs) b e short r (in_filter xs r h is)

  some_among : (ys : List ℕ) (r : ℕ) → best_among last span ys ≡ None → has_number ys r ≡ true → ⊥
  some_among [] r e h = cc
  some_among (y ∷ ys) r e h = cc

  pub none_free : (xs : List ℕ) (r : ℕ) → best_register last span free xs ≡ None → has_number xs r ≡ true → free r ≡ true → ⊥
  unfolding best_register
  none_free xs r e h is = some_among (filter free xs) r e (in_filter xs r h is)
