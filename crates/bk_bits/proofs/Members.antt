-- Words as a set, and what a write of one bit or of all words changes.
use Rattle.std.proofs.Common.{◌≡◌, ◌≢◌, ℕ, zero, suc, ◌+◌, ◌/◌, ◌%◌, ◌^◌, ◌<◌, ◌≤◌, inl, inr, Bool, true, false, List, ◌∷◌, refl, sym, ap, ◌∙◌, length, map, replicate, set, get_or, arith}
use Rattle.std.specs.Prelude.{◌==◌, ◌⊎◌, slice_index, bit_and, bit_or}
use Rattle.std.specs.List.{range_with_len}
use Rattle.std.specs.Int.{w64, bit_at, bit_not}
use Rattle.std.proofs.lemmas.Bool.{cases_eq}
use Rattle.std.proofs.lemmas.List.{get_or-set_same, get_or-set_other, length-replicate}
use Rattle.std.proofs.lemmas.Nat.{pow_below}
use Rattle.std.proofs.lemmas.Nat.Bits.{bit_at-zero, bit_at_or, bit_at_and, bit_at_not, bit_at-pow_same, bit_at-pow_other, bit_at-lt}
use Rattle.bk_bits.specs.model.Words.{is_member, members, AreWords}
use Rattle.bk_bits.proofs.Bits.{is_one, is_zero}

-- ---- bits of one word

set_bit : (w i : ℕ) → bit_at (bit_or w (2 ^ i)) i ≡ 1
set_bit w i = omega (arith, bit_at_or w (2 ^ i) i, bit_at-pow_same i, bit_at-lt w i)

set_other : (w i j : ℕ) → j ≢ i → bit_at (bit_or w (2 ^ i)) j ≡ bit_at w j
set_other w i j ne = omega (arith, bit_at_or w (2 ^ i) j, bit_at-pow_other i j ne)

clear_bit : (w i : ℕ) → 2 ^ i < 2 ^ 64 → i < 64 → bit_at (bit_and w (bit_not w64 (2 ^ i))) i ≡ 0
clear_bit w i fits within = omega (arith, bit_at_and w (bit_not w64 (2 ^ i)) i, bit_at_not w64 (2 ^ i) i fits within, bit_at-pow_same i)

clear_other : (w i j : ℕ) → 2 ^ i < 2 ^ 64 → j < 64 → j ≢ i → bit_at (bit_and w (bit_not w64 (2 ^ i))) j ≡ bit_at w j
clear_other w i j fits within ne = omega (arith, bit_at_and w (bit_not w64 (2 ^ i)) j, bit_at_not w64 (2 ^ i) j fits within, bit_at-pow_other i j ne, bit_at-lt w j)

-- ---- one write in a list of words

module _ (words : List ℕ) (k v : ℕ) (within : k / 64 < length words) where
  written : bit_at (slice_index (set words (k / 64) v) (k / 64)) (k % 64) ≡ bit_at v (k % 64)
  written = ap (λ w. bit_at w (k % 64)) (get_or-set_same words (k / 64) v 0 within)

  others : (j : ℕ) → j ≢ k → ((i : ℕ) → i < 64 → i ≢ k % 64 → bit_at v i ≡ bit_at (slice_index words (k / 64)) i) → is_member (set words (k / 64) v) j ≡ is_member words j
  others j ne same = by_word (cases_eq (j / 64) (k / 64))
    where
      by_word : (j / 64 ≡ k / 64) ⊎ (j / 64 ≢ k / 64) → is_member (set words (k / 64) v) j ≡ is_member words j
      by_word (inr apart) = ap (λ w. bit_at w (j % 64) == 1) (get_or-set_other words (k / 64) (j / 64) v 0 apart)
      by_word (inl e) =
          ap (λ p. bit_at (slice_index (set words (k / 64) v) p) (j % 64) == 1) e
          ∙ ap (λ w. bit_at w (j % 64) == 1) (get_or-set_same words (k / 64) v 0 within)
          ∙ ap (λ b. b == 1) (same (j % 64) (omega arith) (λ m. ne (omega (arith, e, m))))
          ∙ ap (λ p. bit_at (slice_index words p) (j % 64) == 1) (sym e)

small_power : (i : ℕ) → i < 64 → 2 ^ i < 2 ^ 64
small_power i within = pow_below i 64 within

pub put_there : (words : List ℕ) (k : ℕ) → k / 64 < length words → is_member (set words (k / 64) (bit_or (slice_index words (k / 64)) (2 ^ (k % 64)))) k ≡ true
put_there words k within = is_one _ (written words k _ within ∙ set_bit (slice_index words (k / 64)) (k % 64))

pub put_others : (words : List ℕ) (k : ℕ) → k / 64 < length words → (j : ℕ) → j ≢ k → is_member (set words (k / 64) (bit_or (slice_index words (k / 64)) (2 ^ (k % 64)))) j ≡ is_member words j
put_others words k within j ne = others words k _ within j ne (λ i small apart. set_other (slice_index words (k / 64)) (k % 64) i apart)

pub take_there : (words : List ℕ) (k : ℕ) → k / 64 < length words → is_member (set words (k / 64) (bit_and (slice_index words (k / 64)) (bit_not w64 (2 ^ (k % 64))))) k ≡ false
take_there words k within = is_zero _ (written words k _ within ∙ clear_bit (slice_index words (k / 64)) (k % 64) (small_power (k % 64) (omega arith)) (omega arith))

pub take_others : (words : List ℕ) (k : ℕ) → k / 64 < length words → (j : ℕ) → j ≢ k → is_member (set words (k / 64) (bit_and (slice_index words (k / 64)) (bit_not w64 (2 ^ (k % 64))))) j ≡ is_member words j
take_others words k within j ne = others words k _ within j ne (λ i small apart. clear_other (slice_index words (k / 64)) (k % 64) i (small_power (k % 64) (omega arith)) small apart)

-- ---- the list of members

length_of : (f : ℕ → Bool) (a n : ℕ) → length (map f (range_with_len a n)) ≡ n
length_of f a zero = refl
length_of f a (suc n) = ap suc (length_of f (a + 1) n)

at_of : (f : ℕ → Bool) (a n k : ℕ) (d : Bool) → k < n → get_or (map f (range_with_len a n)) k d ≡ f (a + k)
at_of f a zero k d within = absurd (omega (arith, within))
at_of f a (suc n) zero d within = ap f (let start : a ≡ a + 0 = omega arith in start)
at_of f a (suc n) (suc k) d within = at_of f (a + 1) n k d (omega (arith, within)) ∙ ap f (let next : a + 1 + k ≡ a + suc k = omega arith in next)

module _ (f g : ℕ → Bool) where
  same_from : (a n : ℕ) → ((j : ℕ) → a ≤ j → g j ≡ f j) → map g (range_with_len a n) ≡ map f (range_with_len a n)
  same_from a zero same = refl
  same_from a (suc n) same =
      ap (λ b. b ∷ map g (range_with_len (a + 1) n)) (same a (omega arith))
      ∙ ap (λ bs. f a ∷ bs) (same_from (a + 1) n (λ j above. same j (omega (arith, above))))

  set_of : (a n k : ℕ) (v : Bool) → k < n → g (a + k) ≡ v → ((j : ℕ) → j ≢ a + k → g j ≡ f j) → map g (range_with_len a n) ≡ set (map f (range_with_len a n)) k v
  set_of a zero k v within is same = absurd (omega (arith, within))
  set_of a (suc n) zero v within is same =
      ap (λ b. b ∷ map g (range_with_len (a + 1) n)) (ap g (let start : a ≡ a + 0 = omega arith in start) ∙ is)
      ∙ ap (λ bs. v ∷ bs) (same_from (a + 1) n (λ j above. same j (λ e. omega (arith, e, above))))
  set_of a (suc n) (suc k) v within is same =
      ap (λ b. b ∷ map g (range_with_len (a + 1) n)) (same a (λ e. omega (arith, e)))
      ∙ ap (λ bs. f a ∷ bs) (set_of (a + 1) n k v (omega (arith, within)) (ap g (let next : a + 1 + k ≡ a + suc k = omega arith in next) ∙ is) (λ j ne. same j (λ e. ne (omega (arith, e)))))

pub as_many : (words : List ℕ) (bound : ℕ) → length (members words bound) ≡ bound
as_many words bound = length_of (is_member words) 0 bound

pub word_within : (bound k : ℕ) → k < bound → k / 64 < (bound + 63) / 64
word_within bound k within = omega (arith, within)

pub member_at : (words : List ℕ) (bound k : ℕ) (d : Bool) → k < bound → get_or (members words bound) k d ≡ is_member words k
member_at words bound k d within = at_of (is_member words) 0 bound k d within ∙ ap (is_member words) (let same : 0 + k ≡ k = omega arith in same)

pub members_set : (old new : List ℕ) (bound k : ℕ) (v : Bool) → k < bound → is_member new k ≡ v → ((j : ℕ) → j ≢ k → is_member new j ≡ is_member old j) → members new bound ≡ set (members old bound) k v
members_set old new bound k v within is same =
    set_of (is_member old) (is_member new) 0 bound k v within (ap (is_member new) (let same : 0 + k ≡ k = omega arith in same) ∙ is) (λ j ne. same j (λ e. ne (omega (arith, e))))

no_word : (m p : ℕ) → slice_index (replicate m 0) p ≡ 0
no_word zero p = refl
no_word (suc m) zero = refl
no_word (suc m) (suc p) = no_word m p

none_is_member : (m k : ℕ) → is_member (replicate m 0) k ≡ false
none_is_member m k = is_zero _ (ap (λ w. bit_at w (k % 64)) (no_word m (k / 64)) ∙ bit_at-zero (k % 64))

all_false : (f : ℕ → Bool) → ((k : ℕ) → f k ≡ false) → (a n : ℕ) → map f (range_with_len a n) ≡ replicate n false
all_false f none a zero = refl
all_false f none a (suc n) = ap (λ b. b ∷ map f (range_with_len (a + 1) n)) (none a) ∙ ap (λ bs. false ∷ bs) (all_false f none (a + 1) n)

pub no_members : (m bound : ℕ) → members (replicate m 0) bound ≡ replicate bound false
no_members m bound = all_false (is_member (replicate m 0)) (none_is_member m) 0 bound

pub same_members : (old new : List ℕ) (bound : ℕ) → ((j : ℕ) → is_member new j ≡ is_member old j) → members new bound ≡ members old bound
same_members old new bound same = same_from (is_member old) (is_member new) 0 bound (λ j above. same j)

pub empty_words : (bound : ℕ) → bound < 2 ^ 32 → AreWords (replicate ((bound + 63) / 64) 0) bound
empty_words bound few = record { few = few; length = length-replicate ((bound + 63) / 64) 0; none = λ k past. none_is_member ((bound + 63) / 64) k }
