-- The blocks of a function, one after the other.
use Rattle.std.proofs.Common.{◌≡◌, ◌≢◌, ℕ, zero, suc, ◌+◌, ◌<◌, ◌≤◌, ◌⊎◌, List, [], ◌∷◌, ◌++◌, Option, Some, None, Bool, refl, sym, ap, ◌∙◌, inl, inr, subst, length, append_assoc, arith, length-append}
use Rattle.std.specs.Prelude.{slice_get, slice_index_or}
use Rattle.std.proofs.lemmas.Option.{get_or_from_slice_get, slice_get_past, slice_get_within}
use Rattle.bk_bits.specs.Sets.{has}
use Rattle.bk_ilist.specs.Listing.{items}
use Rattle.bitvector_flow.specs.Flows.{has_at}
use Rattle.temp_ir.specs.declared.insn.TempInsn.{TempInsn}
use Rattle.block_coalescing.specs.Walks.{BlockWalked, OptionWalked, AreWalked}
use Rattle.block_coalescing.specs.model.Steps.{AreWalkedTo}
use Rattle.block_coalescing.proofs.Stays.{same_or}

-- one turn of the list of the instructions of a block
pub insns_next : (made : List TempInsn) (i : TempInsn) (rest all : List (ℕ × TempInsn)) (id : ℕ) → all ≡ (id, i) ∷ rest → (made ++ i ∷ []) ++ items rest ≡ made ++ items all
insns_next made i rest all id is = append_assoc made (i ∷ []) (items rest) ∙ sym (ap (λ x. made ++ items x) is)

pub walked_at : (temps : ℕ) (tops bottoms : List (List Bool)) (blocks : List (List TempInsn)) (at : ℕ) (top bottom : List Bool) (insns ys : List TempInsn) → slice_get tops at ≡ Some top → slice_get bottoms at ≡ Some bottom → slice_get blocks at ≡ Some insns → BlockWalked temps (has top) (has bottom) insns ys → OptionWalked temps (has_at tops at) (has_at bottoms at) (slice_get blocks at) (Some ys)
walked_at temps tops bottoms blocks at top bottom insns ys t b e w =
    let same_top : slice_index_or tops at [] ≡ top = get_or_from_slice_get tops at top [] t in
    let same_bottom : slice_index_or bottoms at [] ≡ bottom = get_or_from_slice_get bottoms at bottom [] b in
    subst (λ o. OptionWalked temps (has_at tops at) (has_at bottoms at) o (Some ys)) (sym e)
    (subst (λ s. BlockWalked temps (has s) (has_at bottoms at) insns ys) (sym same_top) (subst (λ s. BlockWalked temps (has top) (has s) insns ys) (sym same_bottom) w))

get_front : {A : Type 0} → (xs : List A) (y : A) (i : ℕ) → i < length xs → slice_get (xs ++ (y ∷ [])) i ≡ slice_get xs i
get_front [] y i w = absurd (omega (arith, w))
get_front (x ∷ xs) y zero w = refl
get_front (x ∷ xs) y (suc i) w = get_front xs y i (omega (arith, w))

get_last : {A : Type 0} → (xs : List A) (y : A) → slice_get (xs ++ (y ∷ [])) (length xs) ≡ Some y
get_last [] y = refl
get_last (x ∷ xs) y = get_last xs y

past_none : {A : Type 0} → (xs : List A) (i : ℕ) → slice_get xs i ≡ None → length xs ≤ i
past_none [] i e = omega arith
past_none (x ∷ xs) zero e = absurd (cc)
past_none (x ∷ xs) (suc i) e = let rest = past_none xs i e in omega (arith, rest)

module _ (temps : ℕ) (tops bottoms : (block r : ℕ) → Bool) (before : List (List TempInsn)) where
  pub none_walked : AreWalkedTo 0 temps tops bottoms before []
  none_walked = record { far = refl; each = λ block less. absurd (omega (arith, less)) }

  pub more_walked : (count : ℕ) (after more : List (List TempInsn)) (ys : List TempInsn) → more ≡ after ++ ys ∷ [] → AreWalkedTo count temps tops bottoms before after → OptionWalked temps (tops count) (bottoms count) (slice_get before count) (Some ys) → AreWalkedTo (count + 1) temps tops bottoms before more
  more_walked count after more ys is so w = subst (λ l. AreWalkedTo (count + 1) temps tops bottoms before l) (sym is) (record {
    far = length-append after (ys ∷ []) ∙ ap (λ k. k + 1) so.far;
    each = λ block less. each block less (same_or block count);
  })
    where
      each : (block : ℕ) → block < count + 1 → (block ≡ count) ⊎ (block ≢ count) → OptionWalked temps (tops block) (bottoms block) (slice_get before block) (slice_get (after ++ (ys ∷ [])) block)
      each block less (inl e) =
          let last : slice_get (after ++ (ys ∷ [])) count ≡ Some ys = ap (λ k. slice_get (after ++ (ys ∷ [])) k) (sym so.far) ∙ get_last after ys in
          subst (λ k. OptionWalked temps (tops k) (bottoms k) (slice_get before k) (slice_get (after ++ (ys ∷ [])) k)) (sym e)
          (subst (λ o. OptionWalked temps (tops count) (bottoms count) (slice_get before count) o) (sym last) w)
      each block less (inr n) =
          let fewer : block < count = omega (arith, less, n) in
          let within : block < length after = let far = so.far in omega (arith, fewer, far) in
          subst (λ o. OptionWalked temps (tops block) (bottoms block) (slice_get before block) o) (sym (get_front after ys block within)) (so.each block fewer)

  pub all_walked : (count : ℕ) (after : List (List TempInsn)) → length before ≤ count → count ≤ length before → AreWalkedTo count temps tops bottoms before after → AreWalked temps tops bottoms before after
  all_walked count after most least so = record { each = λ block. go block (slice_get before block) refl }
    where
      go : (block : ℕ) (o : Option (List TempInsn)) → slice_get before block ≡ o → OptionWalked temps (tops block) (bottoms block) (slice_get before block) (slice_get after block)
      go block (Some xs) e = so.each block (let less = slice_get_within before block xs e in omega (arith, less, most))
      go block None e =
          let past : length before ≤ block = past_none before block e in
          let none : slice_get after block ≡ None = slice_get_past after block (let far = so.far in omega (arith, far, past, least)) in
          subst (λ o. OptionWalked temps (tops block) (bottoms block) o (slice_get after block)) (sym e) (subst (λ o. OptionWalked temps (tops block) (bottoms block) None o) (sym none) tt)
