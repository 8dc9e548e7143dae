-- The numbers of blocks of which some are split, and what stands there.
use Rattle.std.proofs.Common.{◌≡◌, ℕ, zero, suc, ◌+◌, ◌-◌, ◌<◌, ◌≤◌, Bool, true, false, List, [], ◌∷◌, ◌++◌, length, get_or, refl, sym, ap, subst, ◌∙◌, inl, inr, arith, length-append, add-zero}
use Rattle.std.proofs.lemmas.Bool.{cases_lt}
use Rattle.std.proofs.Common.{drop, append_assoc, append-nil, ◌*◌, ◌^◌}
use Rattle.std.specs.Prelude.{All}
use Rattle.std.proofs.lemmas.List.{get_or_append_left, get_or-append-add}
use Rattle.cfg.proofs.Blocks.{drop_marks, drop_one, drop_holds}
use Rattle.cfg_edges.specs.model.Split.{places, numbers_from, pieces, split_from}

pub numbers_head : (first : ℕ) (splits : List Bool) → get_or (numbers_from first splits) 0 0 ≡ first
numbers_head first [] = refl
numbers_head first (s ∷ splits) = refl

pub numbers_next : (first : ℕ) (splits : List Bool) (b : ℕ) → b < length splits → get_or (numbers_from first splits) (suc b) 0 ≡ get_or (numbers_from first splits) b 0 + places (get_or splits b false)
numbers_next first [] b below = absurd (omega arith)
numbers_next first (s ∷ splits) zero below = numbers_head (first + places s) splits
numbers_next first (s ∷ splits) (suc b) below = numbers_next (first + places s) splits b (omega arith)

pub numbers_length : (first : ℕ) (splits : List Bool) → length (numbers_from first splits) ≡ suc (length splits)
numbers_length first [] = refl
numbers_length first (s ∷ splits) = ap suc (numbers_length (first + places s) splits)

numbers_shift : (a c : ℕ) (splits : List Bool) (b : ℕ) → b ≤ length splits → get_or (numbers_from (a + c) splits) b 0 ≡ a + get_or (numbers_from c splits) b 0
numbers_shift a c [] zero below = refl
numbers_shift a c [] (suc b) below = absurd (omega arith)
numbers_shift a c (s ∷ splits) zero below = refl
numbers_shift a c (s ∷ splits) (suc b) below =
    ap (λ n. get_or (numbers_from n splits) b 0) (let same : (a + c) + places s ≡ a + (c + places s) = omega arith in same)
    ∙ numbers_shift a (c + places s) splits b (omega arith)

-- behind the first block
numbers_behind : (s : Bool) (splits : List Bool) (b : ℕ) → b ≤ length splits → get_or (numbers_from 0 (s ∷ splits)) (suc b) 0 ≡ places s + get_or (numbers_from 0 splits) b 0
numbers_behind s splits b below =
    ap (λ n. get_or (numbers_from n splits) b 0) (let same : 0 + places s ≡ places s + 0 = omega arith in same) ∙ numbers_shift (places s) 0 splits b below

pub places_some : (s : Bool) → 0 < places s
places_some true = omega arith
places_some false = omega arith

-- numbers rise
pub numbers_rise : (splits : List Bool) (b t : ℕ) → b < t → t ≤ length splits → get_or (numbers_from 0 splits) b 0 + places (get_or splits b false) ≤ get_or (numbers_from 0 splits) t 0
numbers_rise splits b zero later within = absurd (omega arith)
numbers_rise splits b (suc t) later within = elim (cases_lt b t) [
  | inl more ↦ omega (arith, numbers_rise splits b t more (omega arith), numbers_next 0 splits t (omega arith))
  | inr last ↦
      let same : t ≡ b = omega arith in
      subst (λ x. get_or (numbers_from 0 splits) b 0 + places (get_or splits b false) ≤ get_or (numbers_from 0 splits) (suc x) 0) (sym same)
      (omega (arith, numbers_next 0 splits b (omega arith)))
]

-- a number is that of a block, or of one of those that come behind it
pub record Piece (splits : List Bool) (c : ℕ) : Type 0 where
  pub block : ℕ
  pub at : ℕ
  pub below : block < length splits
  pub inside : at < places (get_or splits block false)
  pub is : get_or (numbers_from 0 splits) block 0 + at ≡ c

pub piece_of : (splits : List Bool) (c : ℕ) → c < get_or (numbers_from 0 splits) (length splits) 0 → Piece splits c
piece_of [] c below = absurd (omega arith)
piece_of (s ∷ splits) c below = elim (cases_lt c (places s)) [
  | inl here ↦ record { block = 0; at = c; below = omega arith; inside = here; is = let same : 0 + c ≡ c = omega arith in same }
  | inr behind ↦
      let rest = piece_of splits (c - places s) (omega (arith, numbers_behind s splits (length splits) (omega arith))) in
      record {
        block = suc rest.block;
        at = rest.at;
        below = omega (arith, rest.below);
        inside = rest.inside;
        is = omega (arith, numbers_behind s splits rest.block (omega (arith, rest.below)), rest.is);
      }
]

module _ {I : Type 0} (targets : I → List ℕ) (with_target : I → ℕ → ℕ → I) (jump_to : ℕ → I) (numbers : List ℕ) where
  pieces_length : (n : ℕ) (s : Bool) (x : List I) → length (pieces targets with_target jump_to numbers n s x) ≡ places s
  pieces_length n true x = refl
  pieces_length n false x = refl

  pub split_length : (n : ℕ) (splits : List Bool) (blocks : List (List I)) → length splits ≡ length blocks → length (split_from targets with_target jump_to numbers n splits blocks) ≡ get_or (numbers_from 0 splits) (length splits) 0
  split_length n [] blocks same = refl
  split_length n (s ∷ splits) [] same = absurd (omega arith)
  split_length n (s ∷ splits) (x ∷ blocks) same =
      omega (
        arith,
        length-append (pieces targets with_target jump_to numbers n s x) (split_from targets with_target jump_to numbers (suc n) splits blocks),
        pieces_length n s x,
        split_length (suc n) splits blocks (omega arith),
        numbers_behind s splits (length splits) (omega arith),
      )

  -- what stands at a number
  pub split_get : (n : ℕ) (splits : List Bool) (blocks : List (List I)) (b at : ℕ) → length splits ≡ length blocks → b < length splits → at < places (get_or splits b false) → get_or (split_from targets with_target jump_to numbers n splits blocks) (get_or (numbers_from 0 splits) b 0 + at) [] ≡ get_or (pieces targets with_target jump_to numbers (n + b) (get_or splits b false) (get_or blocks b [])) at []
  split_get n [] blocks b at same below inside = absurd (omega arith)
  split_get n (s ∷ splits) [] b at same below inside = absurd (omega arith)
  split_get n (s ∷ splits) (x ∷ blocks) zero at same below inside =
      ap (λ k. get_or (pieces targets with_target jump_to numbers n s x ++ split_from targets with_target jump_to numbers (suc n) splits blocks) k []) (let none : 0 + at ≡ at = omega arith in none)
      ∙ get_or_append_left (pieces targets with_target jump_to numbers n s x) (split_from targets with_target jump_to numbers (suc n) splits blocks) [] at (omega (arith, pieces_length n s x))
      ∙ ap (λ m. get_or (pieces targets with_target jump_to numbers m s x) at []) (sym (add-zero n))
  split_get n (s ∷ splits) (x ∷ blocks) (suc b) at same below inside =
      let here = pieces targets with_target jump_to numbers n s x in
      let rest = split_from targets with_target jump_to numbers (suc n) splits blocks in
      ap (λ k. get_or (here ++ rest) k [])
      (let place : get_or (numbers_from 0 (s ∷ splits)) (suc b) 0 + at ≡ length here + (get_or (numbers_from 0 splits) b 0 + at) =
      omega (arith, numbers_behind s splits b (omega arith), pieces_length n s x) in place)
      ∙ get_or-append-add here rest (get_or (numbers_from 0 splits) b 0 + at) []
      ∙ split_get (suc n) splits blocks b at (omega arith) (omega arith) inside
      ∙ ap (λ m. get_or (pieces targets with_target jump_to numbers m (get_or splits b false) (get_or blocks b [])) at []) (let moved : suc n + b ≡ n + suc b = omega arith in moved)

-- how the numbers are counted
pub record IsNumbered (splits : List Bool) (numbers : List ℕ) (next at : ℕ) : Type 0 where
  pub split : numbers_from 0 splits ≡ numbers ++ numbers_from next (drop at splits)
  pub bound : next ≤ 3 * at

pub numbered_first : (splits : List Bool) (numbers : List ℕ) → numbers ≡ [] → IsNumbered splits numbers 0 0
numbered_first splits numbers none = record { split = ap (λ ns. ns ++ numbers_from 0 splits) (sym none); bound = omega arith }

places_most : (s : Bool) → places s ≤ 3
places_most true = omega arith
places_most false = omega arith

pub numbered_more : (splits : List Bool) (numbers new : List ℕ) (next place after at : ℕ) → IsNumbered splits numbers next at → at < length splits → new ≡ numbers ++ next ∷ [] → place ≡ places (get_or splits at false) → after ≡ next + place → IsNumbered splits new after (at + 1)
numbered_more splits numbers new next place after at so below new_is place_is after_is =
    let s : Bool = get_or splits at false in
    let rest : List ℕ = numbers_from (next + places s) (drop (at + 1) splits) in
    let behind : after ≡ next + places s = after_is ∙ ap (λ p. next + p) place_is in
    record {
      split =
          so.split
          ∙ ap (λ ss. numbers ++ numbers_from next ss) (drop_marks splits at s below refl)
          ∙ sym (append_assoc numbers (next ∷ []) rest)
          ∙ ap (λ ns. ns ++ rest) (sym new_is)
          ∙ ap (λ n. new ++ numbers_from n (drop (at + 1) splits)) (sym behind);
      bound = omega (arith, so.bound, behind, places_most s);
    }

drop_past : {A : Type 0} (xs : List A) (at : ℕ) → length xs ≤ at → drop at xs ≡ []
drop_past [] zero past = refl
drop_past [] (suc at) past = refl
drop_past (x ∷ xs) zero past = absurd (omega arith)
drop_past (x ∷ xs) (suc at) past = drop_past xs at (omega arith)

pub numbered_all : (splits : List Bool) (numbers new : List ℕ) (next at : ℕ) → IsNumbered splits numbers next at → length splits ≤ at → new ≡ numbers ++ next ∷ [] → new ≡ numbers_from 0 splits
numbered_all splits numbers new next at so past new_is =
    new_is ∙ sym (so.split ∙ ap (λ ss. numbers ++ numbers_from next ss) (drop_past splits at past))

numbers_bound : (first : ℕ) (splits : List Bool) (k d : ℕ) → k < length (numbers_from first splits) → get_or (numbers_from first splits) k d ≤ first + 3 * length splits
numbers_bound first [] zero d below = omega arith
numbers_bound first [] (suc k) d below = absurd (omega arith)
numbers_bound first (s ∷ splits) zero d below = omega arith
numbers_bound first (s ∷ splits) (suc k) d below = omega (arith, numbers_bound (first + places s) splits k d (omega arith), places_most s)

-- the numbers are so small that two more fit
pub numbers_small : (splits : List Bool) (numbers shown : List ℕ) → numbers ≡ numbers_from 0 splits → shown ≡ numbers → length splits < 2 ^ 30 → All (λ n. n + 2 < 2 ^ 32) shown
numbers_small splits numbers shown is shown_is few =
    subst (All (λ n. n + 2 < 2 ^ 32)) (sym (shown_is ∙ is)) (λ k d below. omega (arith, numbers_bound 0 splits k d below, few))

-- the pieces of what is left
pub record IsPut {I : Type 0} (targets : I → List ℕ) (with_target : I → ℕ → ℕ → I) (jump_to : ℕ → I) (numbers : List ℕ) (splits : List Bool) (all rest put : List (List I)) (at : ℕ) : Type 0 where
  pub split : put ++ split_from targets with_target jump_to numbers at (drop at splits) rest ≡ split_from targets with_target jump_to numbers 0 splits all
  pub place : rest ≡ drop at all
  pub bound : at + length rest ≡ length all

module _ {I : Type 0} (targets : I → List ℕ) (with_target : I → ℕ → ℕ → I) (jump_to : ℕ → I) (numbers : List ℕ) (splits : List Bool) (all : List (List I)) where
  pub put_first : (rest put : List (List I)) → put ≡ [] → rest ≡ all → IsPut targets with_target jump_to numbers splits all rest put 0
  put_first rest put none is = record {
    split = ap (λ ps. ps ++ split_from targets with_target jump_to numbers 0 splits rest) none ∙ ap (λ xs. split_from targets with_target jump_to numbers 0 splits xs) is;
    place = is;
    bound = let same : 0 + length rest ≡ length all = omega (arith, ap length is) in same;
  }

  pub put_more : (left rest put new : List (List I)) (at : ℕ) (x : List I) → IsPut targets with_target jump_to numbers splits all left put at → left ≡ x ∷ rest → length splits ≡ length all → new ≡ put ++ pieces targets with_target jump_to numbers at (get_or splits at false) x → IsPut targets with_target jump_to numbers splits all rest new (at + 1)
  put_more left rest put new at x so left_is same new_is =
      let s : Bool = get_or splits at false in
      let below : at < length splits = omega (arith, so.bound, ap length left_is) in
      let here : List (List I) = pieces targets with_target jump_to numbers at s x in
      let behind : List (List I) = split_from targets with_target jump_to numbers (suc at) (drop (at + 1) splits) rest in
      record {
        split =
            ap (λ m. new ++ split_from targets with_target jump_to numbers m (drop (at + 1) splits) rest) (let one : at + 1 ≡ suc at = omega arith in one)
            ∙ ap (λ ps. ps ++ behind) new_is
            ∙ append_assoc put here behind
            ∙ ap (λ ss. put ++ split_from targets with_target jump_to numbers at ss (x ∷ rest)) (sym (drop_marks splits at s below refl))
            ∙ ap (λ xs. put ++ split_from targets with_target jump_to numbers at (drop at splits) xs) (sym left_is)
            ∙ so.split;
        place = drop_one all rest x at (sym left_is ∙ so.place);
        bound = omega (arith, so.bound, ap length left_is);
      }

  put_done : (left put : List (List I)) (at : ℕ) → left ≡ [] → put ≡ put ++ split_from targets with_target jump_to numbers at (drop at splits) left
  put_done left put at none = sym (append-nil put) ∙ ap (λ ys. put ++ ys) (sym (ap (split_from targets with_target jump_to numbers at (drop at splits)) none ∙ none_left (drop at splits)))
    where
      none_left : (ss : List Bool) → split_from targets with_target jump_to numbers at ss [] ≡ []
      none_left [] = refl
      none_left (s ∷ ss) = refl

  pub put_all : (left put : List (List I)) (at : ℕ) → IsPut targets with_target jump_to numbers splits all left put at → left ≡ [] → put ≡ split_from targets with_target jump_to numbers 0 splits all
  put_all left put at so none = put_done left put at none ∙ so.split

  pub put_holds : (P : List I → Type 0) (left rest put : List (List I)) (at : ℕ) (x : List I) → IsPut targets with_target jump_to numbers splits all left put at → left ≡ x ∷ rest → All P all → P x
  put_holds P left rest put at x so left_is holds = drop_holds P all rest x at (sym left_is ∙ so.place) holds
