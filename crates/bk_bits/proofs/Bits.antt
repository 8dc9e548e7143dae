-- Bits of one word, and loops over words.
use Rattle.std.proofs.Common.{◌≡◌, ◌≢◌, ℕ, suc, ◌+◌, ◌-◌, ◌*◌, ◌/◌, ◌%◌, ◌^◌, ◌<◌, ◌≤◌, inl, inr, Bool, true, false, List, refl, sym, ap, ◌∙◌, length, set, arith}
use Rattle.std.specs.Prelude.{◌==◌, ◌||◌, ◌⊎◌, not, slice_index, bit_and, bit_or}
use Rattle.std.specs.Int.{w64, bit_at, trailing_zeros}
use Rattle.std.proofs.lemmas.Bool.{cases_eq, cases_lt}
use Rattle.std.proofs.lemmas.List.{get_or_past, length-set, get_or-set_same, get_or-set_other}
use Rattle.std.proofs.lemmas.Nat.{one_shl, shr-shr, shr_le}
use Rattle.std.proofs.lemmas.Nat.Bits.{bit_at-zero, bit_at_above, shr_and_one, bit_at-trailing_zeros}
use Rattle.bk_bits.specs.model.Words.{is_member, AreMade, adds}

pub one_bit : (i : ℕ) → i < 64 → 1 * 2 ^ i % 2 ^ 64 ≡ 2 ^ i
one_bit i within = one_shl i 64 within

pub member_is : (words : List ℕ) (k : ℕ) → (bit_and (slice_index words (k / 64) / 2 ^ (k % 64)) 1 == 1) ≡ is_member words k
member_is words k = ap (λ b. b == 1) (shr_and_one (slice_index words (k / 64)) (k % 64))

pub is_one : (a : ℕ) → a ≡ 1 → (a == 1) ≡ true
is_one a e = ap (λ b. b == 1) e

pub is_zero : (a : ℕ) → a ≡ 0 → (a == 1) ≡ false
is_zero a e = ap (λ b. b == 1) e

-- ---- loops over words

pub none_made : (word : ℕ → ℕ → ℕ) (old other : List ℕ) → AreMade word old other old 0
none_made word old other = record { length = refl; made = λ p within. absurd (omega (arith, within)); rest = λ p above. refl }

module _ (word : ℕ → ℕ → ℕ) (old other now : List ℕ) (i : ℕ) (so_far : AreMade word old other now i) where
  there : slice_index now i ≡ slice_index old i
  there = so_far.rest i (let e : i ≤ i = omega arith in e)

  pub one_made : i < length now → AreMade word old other (set now i (word (slice_index now i) (slice_index other i))) (i + 1)
  one_made within = record { length = length-set now i _ ∙ so_far.length; made = made_at; rest = rest_at }
    where
      written : ℕ
      written = word (slice_index now i) (slice_index other i)

      made_here : (p : ℕ) → p ≡ i → slice_index (set now i written) p ≡ word (slice_index old p) (slice_index other p)
      made_here p e =
          ap (slice_index (set now i written)) e
          ∙ get_or-set_same now i written 0 within
          ∙ ap (λ w. word w (slice_index other i)) there
          ∙ ap (λ q. word (slice_index old q) (slice_index other q)) (sym e)

      made_at : (p : ℕ) → p < i + 1 → slice_index (set now i written) p ≡ word (slice_index old p) (slice_index other p)
      made_at p below = by_case (cases_eq p i)
        where
          by_case : (p ≡ i) ⊎ (p ≢ i) → slice_index (set now i written) p ≡ word (slice_index old p) (slice_index other p)
          by_case (inl e) = made_here p e
          by_case (inr ne) = get_or-set_other now i p written 0 ne ∙ so_far.made p (by_order (cases_lt p i))
            where
              by_order : (p < i) ⊎ (i ≤ p) → p < i
              by_order (inl less) = less
              by_order (inr more) = absurd (ne (omega (arith, more, below)))

      rest_at : (p : ℕ) → i + 1 ≤ p → slice_index (set now i written) p ≡ slice_index old p
      rest_at p above = get_or-set_other now i p written 0 (λ e. omega (arith, e, above)) ∙ so_far.rest p (omega (arith, above))

  pub one_adds : (grew : Bool) → grew ≡ adds old other i → (grew || not (bit_or (slice_index now i) (slice_index other i) == slice_index now i)) ≡ adds old other (i + 1)
  one_adds grew e =
      ap (λ g. g || not (bit_or (slice_index now i) (slice_index other i) == slice_index now i)) e
      ∙ ap (λ w. adds old other i || not (bit_or w (slice_index other i) == w)) there
      ∙ ap (adds old other) (let next : suc i ≡ i + 1 = omega arith in next)

-- ---- the first bit from one on

shifted : (w from i : ℕ) → bit_at (w / 2 ^ from) i ≡ bit_at w (from + i)
shifted w from i = ap (λ n. n % 2) (shr-shr w from i)

from_on : (w from j : ℕ) → from ≤ j → bit_at w j ≡ bit_at (w / 2 ^ from) (j - from)
from_on w from j above = ap (bit_at w) (let e : j ≡ from + (j - from) = omega (arith, above) in e) ∙ sym (shifted w from (j - from))

pub none_from : (w from : ℕ) → w / 2 ^ from ≡ 0 → (j : ℕ) → from ≤ j → j < 64 → bit_at w j ≡ 0
none_from w from e j above within = from_on w from j above ∙ ap (λ n. bit_at n (j - from)) e ∙ bit_at-zero (j - from)

module _ (w from low : ℕ) (fits : w < 2 ^ 64) (there : bit_at (w / 2 ^ from) low ≡ 1) (before : (i : ℕ) → i < low → bit_at (w / 2 ^ from) i ≡ 0) where
  is_set : bit_at w (from + low) ≡ 1
  is_set = sym (shifted w from low) ∙ there

  in_word : from + low < 64
  in_word = by_order (cases_lt (from + low) 64)
    where
      by_order : (from + low < 64) ⊎ (64 ≤ from + low) → from + low < 64
      by_order (inl less) = less
      by_order (inr more) = absurd (let none : bit_at w (from + low) ≡ 0 = bit_at_above w 64 (from + low) fits more in omega (arith, none, is_set))

  first_of : (from ≤ from + low) × (from + low < 64) × (bit_at w (from + low) ≡ 1) × ((j : ℕ) → from ≤ j → j < from + low → bit_at w j ≡ 0)
  first_of = (omega arith, in_word, is_set, λ j above below. from_on w from j above ∙ before (j - from) (omega (arith, above, below)))

pub first_fits : (w from : ℕ) → w < 2 ^ 64 → 0 < w / 2 ^ from → from + trailing_zeros w64 (w / 2 ^ from) < 64
first_fits w from fits is_some = by_parts (bit_at-trailing_zeros w64 (w / 2 ^ from) is_some (omega (arith, fits, shr_le w from)))
  where
    by_parts : (trailing_zeros w64 (w / 2 ^ from) < 64) × (bit_at (w / 2 ^ from) (trailing_zeros w64 (w / 2 ^ from)) ≡ 1)
        × ((i : ℕ) → i < trailing_zeros w64 (w / 2 ^ from) → bit_at (w / 2 ^ from) i ≡ 0) → from + trailing_zeros w64 (w / 2 ^ from) < 64
    by_parts (small, set, before) = in_word w from (trailing_zeros w64 (w / 2 ^ from)) fits set before

pub first_is : (w from : ℕ) → w < 2 ^ 64 → 0 < w / 2 ^ from →
    (from ≤ from + trailing_zeros w64 (w / 2 ^ from)) × (from + trailing_zeros w64 (w / 2 ^ from) < 64)
    × (bit_at w (from + trailing_zeros w64 (w / 2 ^ from)) ≡ 1)
    × ((j : ℕ) → from ≤ j → j < from + trailing_zeros w64 (w / 2 ^ from) → bit_at w j ≡ 0)
first_is w from fits is_some = by_parts (bit_at-trailing_zeros w64 (w / 2 ^ from) is_some (omega (arith, fits, shr_le w from)))
  where
    low : ℕ
    low = trailing_zeros w64 (w / 2 ^ from)

    by_parts : (low < 64) × (bit_at (w / 2 ^ from) low ≡ 1) × ((i : ℕ) → i < low → bit_at (w / 2 ^ from) i ≡ 0) →
        (from ≤ from + low) × (from + low < 64) × (bit_at w (from + low) ≡ 1) × ((j : ℕ) → from ≤ j → j < from + low → bit_at w j ≡ 0)
    by_parts (small, set, before) = first_of w from low fits set before

-- ---- the first member from a number on

module _ (words : List ℕ) (place from : ℕ) (within : place < length words) (in_word : from < 64) where
  at_bit : (j : ℕ) → j / 64 ≡ place → is_member words j ≡ (bit_at (slice_index words place) (j % 64) == 1)
  at_bit j e = ap (λ p. bit_at (slice_index words p) (j % 64) == 1) e

  pub none_there : ((j : ℕ) → from ≤ j → j < 64 → bit_at (slice_index words place) j ≡ 0) →
      (j : ℕ) → j / 64 ≡ place → from ≤ j % 64 → is_member words j ≡ false
  none_there none j e above = at_bit j e ∙ is_zero _ (none (j % 64) above (omega arith))

  pub member_there : (bit : ℕ) → from ≤ bit → bit < 64 → bit_at (slice_index words place) bit ≡ 1 →
      ((j : ℕ) → from ≤ j → j < bit → bit_at (slice_index words place) j ≡ 0) →
      ((place * 64 + bit) / 64 ≡ place) × (from ≤ (place * 64 + bit) % 64) × (is_member words (place * 64 + bit) ≡ true)
      × ((j : ℕ) → j / 64 ≡ place → from ≤ j % 64 → j < place * 64 + bit → is_member words j ≡ false)
  member_there bit above small is before =
      (in_place, (let e : from ≤ (place * 64 + bit) % 64 = omega (arith, above, small) in e), member, before_it)
    where
      in_place : (place * 64 + bit) / 64 ≡ place
      in_place = omega (arith, small)

      at_place : (place * 64 + bit) % 64 ≡ bit
      at_place = omega (arith, small)

      member : is_member words (place * 64 + bit) ≡ true
      member = at_bit (place * 64 + bit) in_place ∙ is_one _ (ap (bit_at (slice_index words place)) at_place ∙ is)

      before_it : (j : ℕ) → j / 64 ≡ place → from ≤ j % 64 → j < place * 64 + bit → is_member words j ≡ false
      before_it j e from_there below =
          at_bit j e ∙ is_zero _ (before (j % 64) from_there (omega (arith, e, below)))

-- no word before one that is looked at holds a member
abbrev pub NoneBefore : (words : List ℕ) (k place : ℕ) → Type 0
NoneBefore words k place = (j : ℕ) → k ≤ j → j / 64 < place → is_member words j ≡ false

pub none_before : (words : List ℕ) (k : ℕ) → NoneBefore words k (k / 64)
none_before words k j above below = absurd (omega (arith, above, below))

module _ (words : List ℕ) (k place from : ℕ) (none : NoneBefore words k place) (starts : (j : ℕ) → j / 64 ≡ place → k ≤ j → from ≤ j % 64) where
  pub none_further : ((j : ℕ) → j / 64 ≡ place → from ≤ j % 64 → is_member words j ≡ false) → NoneBefore words k (place + 1)
  none_further here j above below = by_order (cases_lt (j / 64) place)
    where
      by_order : (j / 64 < place) ⊎ (place ≤ j / 64) → is_member words j ≡ false
      by_order (inl less) = none j above less
      by_order (inr more) = here j in_place (starts j in_place above)
        where
          in_place : j / 64 ≡ place
          in_place = omega (arith, more, below)

  pub found_member : (m : ℕ) → k / 64 ≤ place → m / 64 ≡ place → from ≤ m % 64 → is_member words m ≡ true →
      ((j : ℕ) → j / 64 ≡ place → from ≤ j % 64 → j < m → is_member words j ≡ false) →
      ((j : ℕ) → j / 64 ≡ place → from ≤ j % 64 → k ≤ j) →
      (k ≤ m) × (is_member words m ≡ true) × ((j : ℕ) → k ≤ j → j < m → is_member words j ≡ false)
  found_member m within in_place above is before least =
      (least m in_place above, is, λ j from_there below. by_order j from_there below (cases_lt (j / 64) place))
    where
      by_order : (j : ℕ) → k ≤ j → j < m → (j / 64 < place) ⊎ (place ≤ j / 64) → is_member words j ≡ false
      by_order j from_there below (inl less) = none j from_there less
      by_order j from_there below (inr more) = before j there (starts j there from_there) below
        where
          there : j / 64 ≡ place
          there = omega (arith, more, below, in_place)

pub none_at_all : (words : List ℕ) (k place : ℕ) → length words ≤ place → NoneBefore words k place → (j : ℕ) → k ≤ j → is_member words j ≡ false
none_at_all words k place all none j above = by_order (cases_lt (j / 64) place)
  where
    by_order : (j / 64 < place) ⊎ (place ≤ j / 64) → is_member words j ≡ false
    by_order (inl less) = none j above less
    by_order (inr more) = is_zero _ (ap (λ w. bit_at w (j % 64)) (get_or_past words (j / 64) 0 (omega (arith, all, more))) ∙ bit_at-zero (j % 64))
