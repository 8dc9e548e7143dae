-- A branch that passes over too many words has to be far, and a tree of sums stays one where it is.
use Rattle.std.proofs.Common.{◌≡◌, ◌≢◌, ℕ, suc, ◌+◌, ◌<◌, ◌≤◌, Bool, true, false, List, length, get_or, set, sym, ◌∙◌, ap, subst, ⊎_elim, arith}
use Rattle.std.proofs.lemmas.Bool.{cases_eq}
use Rattle.std.proofs.lemmas.List.{length-set, get_or-set_same, get_or-set_other}
use Rattle.alpha_items.specs.declared.item.AsmItem.{AsmItem}
use Rattle.alpha_items.specs.declared.item.AsmItem.TheVariants.{Label}
use Rattle.alpha_items.specs.Layout.{item_words, sizes, item_place, label_place, is_far, Within, IsForced}
use Rattle.alpha_items.proofs.Far.{length-sizes, sizes_grow, place-more}
use Rattle.alpha_items.proofs.Forced.{forced_ahead, forced_back}
use Rattle.alpha_asm.specs.model.Sweeps.{near, reach}
use Rattle.alpha_asm.specs.model.Sums.{HoldsAtMost}
use Rattle.alpha_asm.proofs.Judge.{At}
use Rattle.alpha_asm.proofs.Steps.{near-set, short_of}

-- the place behind a branch that is not far
behind : (items : List AsmItem) (far : List Bool) (i t : ℕ) → At items far i t → length far ≡ length items → i < length items →
    item_place items far (i + 1) ≡ item_place items far i + 1
behind items far i t at e inside =
    let next : i + 1 ≡ suc i = omega arith in
    ap (item_place items far) next ∙ place-more items far i (Label 0) e inside
    ∙ ap (λ b. item_place items far i + item_words b (get_or items i (Label 0))) at.short
    ∙ ap (λ x. item_place items far i + item_words false x) at.is_branch

pub ahead_far : (items : List AsmItem) (far : List Bool) (i t w : ℕ) → At items far i t → length far ≡ length items → i < length items →
    i < t → w + item_place items far (i + 1) ≤ item_place items far t → reach ≤ w → IsForced items far → IsForced items (set far i true)
ahead_far items far i t w at e inside ahead between many forced =
    let next = behind items far i t at e inside in
    let label : item_place items far t ≡ label_place items far at.l = ap (item_place items far) at.target in
    forced_ahead items far i at.op at.ra at.l (short_of items far i at.op at.ra at.l e inside at.is_branch at.short) forced
    (omega (arith, ahead, at.target)) (omega (arith, next, label, between, many))

pub back_far : (items : List AsmItem) (far : List Bool) (i t w : ℕ) → At items far i t → length far ≡ length items → i < length items →
    t ≤ i → w + item_place items far t ≤ item_place items far i → reach ≤ w → IsForced items far → IsForced items (set far i true)
back_far items far i t w at e inside back between many forced =
    let label : item_place items far t ≡ label_place items far at.l = ap (item_place items far) at.target in
    forced_back items far i at.op at.ra at.l (short_of items far i at.op at.ra at.l e inside at.is_branch at.short) forced
    (omega (arith, back, at.target)) (omega (arith, label, between, many))

-- what holds with one far branch more
within_more : (far : List Bool) (i : ℕ) → i < length far → Within far (set far i true)
within_more far i inside k h =
    ⊎_elim
    (λ (same : k ≡ i). subst (λ (m : ℕ). is_far (set far i true) m ≡ true) (sym same) (get_or-set_same far i true false inside))
    (λ (apart : k ≢ i). get_or-set_other far i k true false apart ∙ h)
    (cases_eq k i)

pub held_more : (items : List AsmItem) (far : List Bool) (sums : List ℕ) (i : ℕ) → HoldsAtMost (sizes items far) sums → length far ≡ length items →
    i < length items → HoldsAtMost (sizes items (set far i true)) sums
held_more items far sums i h e inside =
    let after : length (set far i true) ≡ length items = length-set far i true ∙ e in
    let long = length-sizes items far e in
    let long_after = length-sizes items (set far i true) after in
    let same : length (sizes items far) ≡ length (sizes items (set far i true)) = long ∙ sym long_after in
    let grow = sizes_grow items far (set far i true) e after (within_more far i (omega (arith, inside, e))) in
    record {
      room = omega (arith, h.room, same);
      below = λ k within.
          let at : get_or sums (length (sizes items far) + k) 0 ≡ get_or sums (length (sizes items (set far i true)) + k) 0
          = ap (λ n. get_or sums (n + k) 0) same in
          omega (arith, at, h.below k (omega (arith, within, same)), grow k);
      nodes = λ k within. h.nodes k (omega (arith, within, same));
    }

pub near_less : (far : List Bool) (i : ℕ) → i < length far → is_far far i ≡ false → near (set far i true) ≤ near far
near_less far i inside short = let one = near-set far i inside short in omega (arith, one)
