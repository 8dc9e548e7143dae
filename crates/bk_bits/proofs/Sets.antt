-- What the calls leave, as sets.
use Rattle.std.proofs.Common.{◌≡◌, ◌≢◌, ℕ, zero, suc, ◌+◌, ◌-◌, ◌*◌, ◌/◌, ◌%◌, ◌^◌, ◌<◌, ◌≤◌, min, max, inl, inr, Bool, true, false, List, refl, sym, ap, ◌∙◌, subst, length, set, arith}
use Rattle.std.specs.Prelude.{◌==◌, ◌||◌, ◌&&◌, ◌⊎◌, not, slice_index, bit_and, bit_or, Option, Some, None, IfNone}
use Rattle.std.specs.Int.{w64, bit_at, bit_not}
use Rattle.std.proofs.lemmas.Bool.{cases_lt, or_cases, or_parts, not-true, not-false, eqb-true, eqb-false}
use Rattle.std.proofs.lemmas.List.{get_or_past, length-set}
use Rattle.std.proofs.lemmas.Nat.{le_or_l}
use Rattle.std.proofs.lemmas.Nat.Bits.{bit_at_or, bit_at_and, bit_at_not, bit_at-lt, same_from_bits_below}
use Rattle.bk_bits.specs.Sets.{has, IsUnion, IsDifference, IsNext, HasNone}
use Rattle.bk_bits.specs.model.Words.{is_member, members, AreWords, AreMade, adds}
use Rattle.bk_bits.proofs.Bits.{is_one, is_zero}
use Rattle.bk_bits.proofs.Members.{as_many, member_at, members_set, word_within, put_there, put_others, take_there, take_others, same_members}

-- ---- a set has what its words have

pub has_is : (words : List ℕ) (bound : ℕ) → AreWords words bound → (k : ℕ) → has (members words bound) k ≡ is_member words k
has_is words bound are k = by_order (cases_lt k bound)
  where
    by_order : (k < bound) ⊎ (bound ≤ k) → has (members words bound) k ≡ is_member words k
    by_order (inl within) = member_at words bound k false within
    by_order (inr past) =
        get_or_past (members words bound) k false (omega (arith, past, as_many words bound)) ∙ sym (are.none k past)

pub place_within : (words : List ℕ) (bound k : ℕ) → AreWords words bound → k < length (members words bound) → k / 64 < length words
place_within words bound k are within = omega (arith, are.length, word_within bound k (omega (arith, within, as_many words bound)))

-- ---- one number is written

module _ (old new : List ℕ) (bound k : ℕ) (v : Bool) (are : AreWords old bound) (within : k < length (members old bound))
    (as_long : length new ≡ length old) (there : is_member new k ≡ v)
    (others : (j : ℕ) → j ≢ k → is_member new j ≡ is_member old j) where
  inside : k < bound
  inside = omega (arith, within, as_many old bound)

  written : members new bound ≡ set (members old bound) k v
  written = members_set old new bound k v inside there others

  are_written : AreWords new bound
  are_written = record {
    few = are.few;
    length = as_long ∙ are.length;
    none = λ j past. others j (λ e. omega (arith, e, past, inside)) ∙ are.none j past;
  }

module _ (words : List ℕ) (bound k : ℕ) (are : AreWords words bound) (within : k < length (members words bound)) where
  there : k / 64 < length words
  there = place_within words bound k are within

  pub inserted : members (set words (k / 64) (bit_or (slice_index words (k / 64)) (2 ^ (k % 64)))) bound ≡ set (members words bound) k true
  inserted = written words _ bound k true are within (length-set words (k / 64) _) (put_there words k there) (put_others words k there)

  pub are_inserted : AreWords (set words (k / 64) (bit_or (slice_index words (k / 64)) (2 ^ (k % 64)))) bound
  are_inserted = are_written words _ bound k true are within (length-set words (k / 64) _) (put_there words k there) (put_others words k there)

  pub removed : members (set words (k / 64) (bit_and (slice_index words (k / 64)) (bit_not w64 (2 ^ (k % 64))))) bound ≡ set (members words bound) k false
  removed = written words _ bound k false are within (length-set words (k / 64) _) (take_there words k there) (take_others words k there)

  pub are_removed : AreWords (set words (k / 64) (bit_and (slice_index words (k / 64)) (bit_not w64 (2 ^ (k % 64))))) bound
  are_removed = are_written words _ bound k false are within (length-set words (k / 64) _) (take_there words k there) (take_others words k there)

-- ---- all words are written

all_made : (word : ℕ → ℕ → ℕ) (old other now : List ℕ) → word 0 0 ≡ 0 → length other ≡ length old → AreMade word old other now (length other) →
    (p : ℕ) → slice_index now p ≡ word (slice_index old p) (slice_index other p)
all_made word old other now none as_long made p = by_order (cases_lt p (length other))
  where
    by_order : (p < length other) ⊎ (length other ≤ p) → slice_index now p ≡ word (slice_index old p) (slice_index other p)
    by_order (inl within) = made.made p within
    by_order (inr past) =
        get_or_past now p 0 (omega (arith, past, as_long, made.length))
        ∙ sym none
        ∙ ap (λ w. word w 0) (sym (get_or_past old p 0 (omega (arith, past, as_long))))
        ∙ ap (word (slice_index old p)) (sym (get_or_past other p 0 past))

or_bits : (a b m : ℕ) → a < 2 → b < 2 → m ≡ max a b → (m == 1) ≡ ((a == 1) || (b == 1))
or_bits zero zero m la lb e = is_zero m e
or_bits zero (suc zero) m la lb e = is_one m e
or_bits (suc zero) zero m la lb e = is_one m e
or_bits (suc zero) (suc zero) m la lb e = is_one m e
or_bits (suc (suc a)) b m la lb e = absurd (omega (arith, la))
or_bits zero (suc (suc b)) m la lb e = absurd (omega (arith, lb))
or_bits (suc zero) (suc (suc b)) m la lb e = absurd (omega (arith, lb))

less_bits : (a b m : ℕ) → a < 2 → b < 2 → m ≡ min a (1 - b) → (m == 1) ≡ ((a == 1) && not (b == 1))
less_bits zero zero m la lb e = is_zero m e
less_bits zero (suc zero) m la lb e = is_zero m e
less_bits (suc zero) zero m la lb e = is_one m e
less_bits (suc zero) (suc zero) m la lb e = is_zero m e
less_bits (suc (suc a)) b m la lb e = absurd (omega (arith, la))
less_bits zero (suc (suc b)) m la lb e = absurd (omega (arith, lb))
less_bits (suc zero) (suc (suc b)) m la lb e = absurd (omega (arith, lb))

first_part : {A B : Type 0} → A × B → A
first_part (a, b) = a

second_part : {A B : Type 0} → A × B → B
second_part (a, b) = b

module _ (old other : List ℕ) where
  AddsNone : (p : ℕ) → Type 0
  AddsNone p = bit_or (slice_index old p) (slice_index other p) ≡ slice_index old p

  last_or_before : (n p : ℕ) → p < suc n → AddsNone n → (p < n → AddsNone p) → AddsNone p
  last_or_before n p within here before = by_order (cases_lt p n)
    where
      by_order : (p < n) ⊎ (n ≤ p) → AddsNone p
      by_order (inl less) = before less
      by_order (inr more) = subst AddsNone (let e : n ≡ p = omega (arith, more, within) in e) here

  nothing_here : (n : ℕ) → not (bit_or (slice_index old n) (slice_index other n) == slice_index old n) ≡ false → AddsNone n
  unfolding AddsNone
  nothing_here n e = eqb-true _ _ (not-false _ e)

  adds_none : (n : ℕ) → adds old other n ≡ false → (p : ℕ) → p < n → AddsNone p
  adds_none zero none p within = absurd (omega (arith, within))
  adds_none (suc n) none p within =
      last_or_before n p within (nothing_here n (second_part (or_parts (adds old other n) _ none)))
      (λ less. adds_none n (first_part (or_parts (adds old other n) _ none)) p less)

  some_before : (n : ℕ) → ((p : ℕ) → AddsNone p) → (adds old other n ≡ true → ⊥) →
      (adds old other n ≡ true) ⊎ (not (bit_or (slice_index old n) (slice_index other n) == slice_index old n) ≡ true) → ⊥
  unfolding AddsNone
  some_before n none never (inl before) = never before
  some_before n none never (inr here) = eqb-false _ _ (not-true _ here) (none n)

  adds_some : (n : ℕ) → adds old other n ≡ true → ((p : ℕ) → AddsNone p) → ⊥
  adds_some zero some none = let clash : ⊥ = cc in clash
  adds_some (suc n) some none = some_before n none (λ before. adds_some n before none) (or_cases (adds old other n) _ some)

-- the bits of a number's word
same_bits : (a b : ℕ) → a < 2 → b < 2 → (a == 1) ≡ (b == 1) → a ≡ b
same_bits zero zero la lb e = refl
same_bits zero (suc zero) la lb e = let clash : ⊥ = cc in absurd clash
same_bits (suc zero) zero la lb e = let clash : ⊥ = cc in absurd clash
same_bits (suc zero) (suc zero) la lb e = refl
same_bits (suc (suc a)) b la lb e = absurd (omega (arith, la))
same_bits zero (suc (suc b)) la lb e = absurd (omega (arith, lb))
same_bits (suc zero) (suc (suc b)) la lb e = absurd (omega (arith, lb))

at_number : (new old : List ℕ) (p i : ℕ) → i < 64 → is_member new (p * 64 + i) ≡ is_member old (p * 64 + i) →
    (bit_at (slice_index new p) i == 1) ≡ (bit_at (slice_index old p) i == 1)
at_number new old p i within same =
    sym (there new) ∙ same ∙ there old
  where
    word : (p * 64 + i) / 64 ≡ p
    word = omega (arith, within)

    bit : (p * 64 + i) % 64 ≡ i
    bit = omega (arith, within)

    there : (words : List ℕ) → is_member words (p * 64 + i) ≡ (bit_at (slice_index words p) i == 1)
    there words =
        ap (λ q. bit_at (slice_index words q) ((p * 64 + i) % 64) == 1) word
        ∙ ap (λ q. bit_at (slice_index words p) q == 1) bit

module _ (old other now : List ℕ) (bound : ℕ) (are_old : AreWords old bound) (are_other : AreWords other bound) where
  as_long : length other ≡ length old
  as_long = are_other.length ∙ sym are_old.length

  module _ (made : AreMade bit_or old other now (length other)) where
    united : (j : ℕ) → is_member now j ≡ (is_member old j || is_member other j)
    united j =
        ap (λ w. bit_at w (j % 64) == 1) (all_made bit_or old other now refl as_long made (j / 64))
        ∙ or_bits (bit_at (slice_index old (j / 64)) (j % 64)) (bit_at (slice_index other (j / 64)) (j % 64)) _
        (bit_at-lt _ (j % 64)) (bit_at-lt _ (j % 64)) (bit_at_or (slice_index old (j / 64)) (slice_index other (j / 64)) (j % 64))

    pub are_united : AreWords now bound
    are_united = record {
      few = are_old.few;
      length = made.length ∙ are_old.length;
      none = λ j past. united j ∙ ap (λ b. b || is_member other j) (are_old.none j past) ∙ are_other.none j past;
    }

    pub union_is : IsUnion (members now bound) (members old bound) (members other bound)
    union_is k =
        has_is now bound are_united k ∙ united k
        ∙ ap (λ b. b || is_member other k) (sym (has_is old bound are_old k))
        ∙ ap (λ b. has (members old bound) k || b) (sym (has_is other bound are_other k))

    kept : adds old other (length other) ≡ false → (p : ℕ) → slice_index now p ≡ slice_index old p
    unfolding AddsNone
    kept none p = by_order (cases_lt p (length other))
      where
        by_order : (p < length other) ⊎ (length other ≤ p) → slice_index now p ≡ slice_index old p
        by_order (inl within) = made.made p within ∙ adds_none old other (length other) none p within
        by_order (inr past) = made.rest p past

    pub same_set : adds old other (length other) ≡ false → members now bound ≡ members old bound
    same_set none = same_members old now bound (λ j. ap (λ w. bit_at w (j % 64) == 1) (kept none (j / 64)))

    pub other_set : ((p : ℕ) → slice_index now p < 2 ^ 64) → adds old other (length other) ≡ true → members now bound ≢ members old bound
    unfolding AddsNone
    other_set fits some same = adds_some old other (length other) some (λ p. sym (word_is p) ∙ words_same p)
      where
        word_is : (p : ℕ) → slice_index now p ≡ bit_or (slice_index old p) (slice_index other p)
        word_is p = all_made bit_or old other now refl as_long made p

        member_same : (j : ℕ) → is_member now j ≡ is_member old j
        member_same j = sym (has_is now bound are_united j) ∙ ap (λ s. has s j) same ∙ has_is old bound are_old j

        old_fits : (p : ℕ) → slice_index old p < 2 ^ 64
        old_fits p = omega (arith, fits p, word_is p, le_or_l (slice_index old p) (slice_index other p))

        words_same : (p : ℕ) → slice_index now p ≡ slice_index old p
        words_same p = same_from_bits_below 64 _ _ (fits p) (old_fits p) (λ i within. bits_same p i within)
          where
            bits_same : (p i : ℕ) → i < 64 → bit_at (slice_index now p) i ≡ bit_at (slice_index old p) i
            bits_same p i within = same_bits _ _ (bit_at-lt _ i) (bit_at-lt _ i) (at_number now old p i within (member_same (p * 64 + i)))

  module _ (made : AreMade (λ w v. bit_and w (bit_not w64 v)) old other now (length other)) (fits : (p : ℕ) → slice_index other p < 2 ^ 64) where
    lessened : (j : ℕ) → is_member now j ≡ (is_member old j && not (is_member other j))
    lessened j =
        ap (λ w. bit_at w (j % 64) == 1) (all_made (λ w v. bit_and w (bit_not w64 v)) old other now refl as_long made (j / 64))
        ∙ less_bits (bit_at (slice_index old (j / 64)) (j % 64)) (bit_at (slice_index other (j / 64)) (j % 64)) _
        (bit_at-lt _ (j % 64)) (bit_at-lt _ (j % 64))
        (bit_at_and (slice_index old (j / 64)) (bit_not w64 (slice_index other (j / 64))) (j % 64)
        ∙ ap (min (bit_at (slice_index old (j / 64)) (j % 64))) (bit_at_not w64 (slice_index other (j / 64)) (j % 64) (fits (j / 64)) (omega arith)))

    pub are_lessened : AreWords now bound
    are_lessened = record {
      few = are_old.few;
      length = made.length ∙ are_old.length;
      none = λ j past. lessened j ∙ ap (λ b. b && not (is_member other j)) (are_old.none j past);
    }

    pub difference_is : IsDifference (members now bound) (members old bound) (members other bound)
    difference_is k =
        has_is now bound are_lessened k ∙ lessened k
        ∙ ap (λ b. b && not (is_member other k)) (sym (has_is old bound are_old k))
        ∙ ap (λ b. has (members old bound) k && not b) (sym (has_is other bound are_other k))

  module _ (made : AreMade (λ w v. v) old other now (length other)) where
    copied : (j : ℕ) → is_member now j ≡ is_member other j
    copied j = ap (λ w. bit_at w (j % 64) == 1) (all_made (λ w v. v) old other now refl as_long made (j / 64))

    pub are_copied : AreWords now bound
    are_copied = record { few = are_old.few; length = made.length ∙ are_old.length; none = λ j past. copied j ∙ are_other.none j past }

    pub copy_is : members now bound ≡ members other bound
    copy_is = same_members other now bound copied

-- ---- the least member from a number on

module _ (words : List ℕ) (bound : ℕ) (are : AreWords words bound) (from : ℕ) where
  pub next_is : (m : ℕ) → from ≤ m → is_member words m ≡ true → ((j : ℕ) → from ≤ j → j < m → is_member words j ≡ false) → IsNext (members words bound) from m
  next_is m above is before =
      (above, has_is words bound are m ∙ is, λ j from_there below. has_is words bound are j ∙ before j from_there below)

  pub none_is : ((j : ℕ) → from ≤ j → is_member words j ≡ false) → HasNone (members words bound) from
  none_is none j above = has_is words bound are j ∙ none j above

-- ---- the same, as the calls have it: what the set was is a list of its own

module _ (words : List ℕ) (bound k : ℕ) (set_was : List Bool) (are : AreWords words bound) (was : members words bound ≡ set_was) (within : k < length set_was) where
  in_members : k < length (members words bound)
  in_members = subst (λ s. k < length s) (sym was) within

  pub in_words : k / 64 < length words
  in_words = place_within words bound k are in_members

  pub is_tested : is_member words k ≡ has set_was k
  is_tested = sym (has_is words bound are k) ∙ ap (λ s. has s k) was

  module _ (new : List ℕ) (is_new : new ≡ set words (k / 64) (bit_or (slice_index words (k / 64)) (2 ^ (k % 64)))) where
    pub insert_keeps : AreWords new bound
    insert_keeps = subst (λ n. AreWords n bound) (sym is_new) (are_inserted words bound k are in_members)

    pub insert_is : members new bound ≡ set set_was k true
    insert_is = ap (λ n. members n bound) is_new ∙ inserted words bound k are in_members ∙ ap (λ s. set s k true) was

  module _ (new : List ℕ) (is_new : new ≡ set words (k / 64) (bit_and (slice_index words (k / 64)) (bit_not w64 (2 ^ (k % 64))))) where
    pub remove_keeps : AreWords new bound
    remove_keeps = subst (λ n. AreWords n bound) (sym is_new) (are_removed words bound k are in_members)

    pub remove_is : members new bound ≡ set set_was k false
    remove_is = ap (λ n. members n bound) is_new ∙ removed words bound k are in_members ∙ ap (λ s. set s k false) was

module _ (old other given : List ℕ) (bound other_bound : ℕ) (s o : List Bool) (are_old : AreWords old bound) (are_other : AreWords other other_bound)
    (is_old : members old bound ≡ s) (is_other : members other other_bound ≡ o) (same : length o ≡ length s) (slice : given ≡ other) where
  bounds : other_bound ≡ bound
  bounds = sym (as_many other other_bound) ∙ ap length is_other ∙ same ∙ sym (ap length is_old) ∙ as_many old bound

  are_given : AreWords given bound
  are_given = subst (λ g. AreWords g bound) (sym slice) (subst (AreWords other) bounds are_other)

  is_given : members given bound ≡ o
  is_given = ap (λ g. members g bound) slice ∙ ap (members other) (sym bounds) ∙ is_other

  pub given_long : length given ≡ length old
  given_long = are_given.length ∙ sym are_old.length

  module _ (now : List ℕ) where
    pub union_keeps : AreMade bit_or old given now (length given) → AreWords now bound
    union_keeps made = are_united old given now bound are_old are_given made

    pub union_gives : AreMade bit_or old given now (length given) → IsUnion (members now bound) s o
    union_gives made k =
        union_is old given now bound are_old are_given made k
        ∙ ap (λ x. has x k || has (members given bound) k) is_old
        ∙ ap (λ x. has s k || has x k) is_given

    pub union_same : AreMade bit_or old given now (length given) → adds old given (length given) ≡ false → members now bound ≡ s
    union_same made none = same_set old given now bound are_old are_given made none ∙ is_old

    pub union_other : AreMade bit_or old given now (length given) → ((p : ℕ) → slice_index now p < 2 ^ 64) →
        adds old given (length given) ≡ true → members now bound ≢ s
    union_other made fits some e = other_set old given now bound are_old are_given made fits some (e ∙ sym is_old)

    pub difference_keeps : AreMade (λ w v. bit_and w (bit_not w64 v)) old given now (length given) → ((p : ℕ) → slice_index given p < 2 ^ 64) → AreWords now bound
    difference_keeps made fits = are_lessened old given now bound are_old are_given made fits

    pub difference_gives : AreMade (λ w v. bit_and w (bit_not w64 v)) old given now (length given) → ((p : ℕ) → slice_index given p < 2 ^ 64) →
        IsDifference (members now bound) s o
    difference_gives made fits k =
        difference_is old given now bound are_old are_given made fits k
        ∙ ap (λ x. has x k && not (has (members given bound) k)) is_old
        ∙ ap (λ x. has s k && not (has x k)) is_given

    pub copy_keeps : AreMade (λ w v. v) old given now (length given) → AreWords now bound
    copy_keeps made = are_copied old given now bound are_old are_given made

    pub copy_gives : AreMade (λ w v. v) old given now (length given) → members now bound ≡ o
    copy_gives made = copy_is old given now bound are_old are_given made ∙ is_given

module _ (words given : List ℕ) (bound : ℕ) (s : List Bool) (are : AreWords words bound) (is : members words bound ≡ s) (slice : given ≡ words) where
  given_words : AreWords given bound
  given_words = subst (λ g. AreWords g bound) (sym slice) are

  given_set : members given bound ≡ s
  given_set = ap (λ g. members g bound) slice ∙ is

  pub few_words : length given ≤ 2 ^ 26
  few_words = omega (arith, given_words.length, given_words.few)

  pub next_some : (from m : ℕ) → (from ≤ m) × (is_member given m ≡ true) × ((j : ℕ) → from ≤ j → j < m → is_member given j ≡ false) → IsNext s from m
  next_some from m (above, there, before) =
      subst (λ x. IsNext x from m) given_set (next_is given bound given_words from m above there before)

  pub next_none : (from : ℕ) → ((j : ℕ) → from ≤ j → is_member given j ≡ false) → HasNone s from
  next_none from none = subst (λ x. HasNone x from) given_set (none_is given bound given_words from none)

pub none_then : (r : Option ℕ) {P Q : Type 0} → IfNone r P → (P → Q) → IfNone r Q
none_then None p then = then p
none_then (Some x) p then = p
