-- A branch that does not reach is far in every list with which the others reach.
use Rattle.std.proofs.Common.{◌≡◌, ◌≢◌, ℕ, suc, ◌+◌, ◌<◌, ◌≤◌, Bool, true, false, List, length, get_or, set, refl, sym, ◌∙◌, ap, subst, ⊎_elim, arith}
use Rattle.std.proofs.lemmas.Bool.{cases_eq}
use Rattle.std.proofs.lemmas.List.{get_or-set_other}
use Rattle.alpha_isa.specs.declared.insn.BranchOp.{BranchOp}
use Rattle.alpha_items.specs.declared.item.AsmItem.{AsmItem}
use Rattle.alpha_items.specs.declared.item.AsmItem.TheVariants.{Label, Branch}
use Rattle.alpha_items.specs.Assembly.{label_index}
use Rattle.alpha_items.specs.Layout.{item_words, item_place, label_place, ItemReaches, is_far, AllReach, Within, IsForced}
use Rattle.alpha_items.proofs.Reach.{reaches_within}
use Rattle.alpha_items.proofs.Far.{place-more, gap_grows}

-- what is not false is true
by_truth : (b : Bool) → (b ≡ false → b ≡ true) → b ≡ true
by_truth true f = refl
by_truth false f = f refl

-- one more far branch
pub within_set : (far other : List Bool) (k : ℕ) → Within far other → is_far other k ≡ true → Within (set far k true) other
within_set far other k within here n h =
    ⊎_elim (λ (same : n ≡ k). subst (λ m. is_far other m ≡ true) (sym same) here)
    (λ (apart : n ≢ k). within n (sym (get_or-set_other far k n true false apart) ∙ h)) (cases_eq n k)

pub forced_set : (items : List AsmItem) (far : List Bool) (k : ℕ) → IsForced items far →
    ((other : List Bool) → length other ≡ length items → AllReach items other → Within far other → is_far other k ≡ true) →
    IsForced items (set far k true)
forced_set items far k forced here other e reach =
    let within = forced other e reach in within_set far other k within (here other e reach within)

-- a branch at k to a label before the item t, short in a list within another one with which it reaches
record JudgedBranch (items : List AsmItem) (far other : List Bool) (k t : ℕ) : Type 0 where
  one_each : length far ≡ length items
  other_one_each : length other ≡ length items
  inside : k < length items
  within : Within far other
  short : item_place items far (suc k) ≡ item_place items far k + 1
  other_short : item_place items other (suc k) ≡ item_place items other k + 1
  near : item_place items other t < item_place items other k + 1 + 1048576
  near_back : item_place items other k + 1 ≤ item_place items other t + 1048576

reaches_at : (items : List AsmItem) (other : List Bool) (i d : AsmItem) (op : BranchOp) (ra l k : ℕ) → i ≡ Branch op ra l →
    ItemReaches (label_place items other) (item_place items other k) i →
    (item_place items other (label_index items l) < item_place items other k + 1 + 1048576) × (item_place items other k + 1 ≤ item_place items other (label_index items l) + 1048576)
reaches_at items other i d op ra l k e h =
    let P : AsmItem → Type 0 = λ x. ItemReaches (label_place items other) (item_place items other k) x in
    reaches_within (item_place items other k) (label_place items other l) (subst P e h)

short_branch : (items : List AsmItem) (far : List Bool) (k : ℕ) (d : AsmItem) (op : BranchOp) (ra l : ℕ) → length far ≡ length items → k < length items →
    get_or items k d ≡ Branch op ra l → is_far far k ≡ false → item_place items far (suc k) ≡ item_place items far k + 1
short_branch items far k d op ra l e h at near =
    place-more items far k d e h
    ∙ ap (λ f. item_place items far k + item_words f (get_or items k d)) near
    ∙ ap (λ i. item_place items far k + item_words false i) at

judged : (items : List AsmItem) (far other : List Bool) (k : ℕ) (d : AsmItem) (op : BranchOp) (ra l : ℕ) →
    length far ≡ length items → length other ≡ length items → k < length items → Within far other → AllReach items other →
    get_or items k d ≡ Branch op ra l → is_far far k ≡ false → is_far other k ≡ false → JudgedBranch items far other k (label_index items l)
judged items far other k d op ra l e f h within reach at near other_near =
    let r = reaches_at items other (get_or items k d) d op ra l k at (reach k d h other_near) in
    record {
      one_each = e;
      other_one_each = f;
      inside = h;
      within = within;
      short = short_branch items far k d op ra l e h at near;
      other_short = short_branch items other k d op ra l f h at other_near;
      near = r.0;
      near_back = r.1;
    }

too_far_ahead : (items : List AsmItem) (far other : List Bool) (k t : ℕ) → JudgedBranch items far other k t → k < t →
    item_place items far t < item_place items far k + 1 + 1048576
too_far_ahead items far other k t j ahead =
    let gap = gap_grows items far other j.one_each j.other_one_each j.within (suc k) t (omega (arith, ahead)) in
    omega (arith, gap, j.short, j.other_short, j.near)

too_far_back : (items : List AsmItem) (far other : List Bool) (k t : ℕ) → JudgedBranch items far other k t → t ≤ k →
    item_place items far k + 1 ≤ item_place items far t + 1048576
too_far_back items far other k t j behind =
    let gap = gap_grows items far other j.one_each j.other_one_each j.within t k behind in
    omega (arith, gap, j.near_back)

-- what a branch that is to become far is
pub record IsShort (items : List AsmItem) (far : List Bool) (k : ℕ) (op : BranchOp) (ra l : ℕ) : Type 0 where
  pub one_each : length far ≡ length items
  pub inside : k < length items
  pub is_branch : (d : AsmItem) → get_or items k d ≡ Branch op ra l
  pub short : is_far far k ≡ false

-- one that is too far ahead, and one that is too far back
pub forced_ahead : (items : List AsmItem) (far : List Bool) (k : ℕ) (op : BranchOp) (ra l : ℕ) → IsShort items far k op ra l → IsForced items far →
    k < label_index items l → item_place items far k + 1 + 1048576 ≤ label_place items far l → IsForced items (set far k true)
forced_ahead items far k op ra l s forced ahead beyond = forced_set items far k forced (λ other e reach within.
    by_truth (is_far other k) (λ near.
    let j = judged items far other k (Label 0) op ra l s.one_each e s.inside within reach (s.is_branch (Label 0)) s.short near in
    let close = too_far_ahead items far other k (label_index items l) j ahead in
    let clash : ⊥ = omega (arith, close, beyond) in absurd clash))

pub forced_back : (items : List AsmItem) (far : List Bool) (k : ℕ) (op : BranchOp) (ra l : ℕ) → IsShort items far k op ra l → IsForced items far →
    label_index items l ≤ k → label_place items far l + 1048576 < item_place items far k + 1 → IsForced items (set far k true)
forced_back items far k op ra l s forced behind beyond = forced_set items far k forced (λ other e reach within.
    by_truth (is_far other k) (λ near.
    let j = judged items far other k (Label 0) op ra l s.one_each e s.inside within reach (s.is_branch (Label 0)) s.short near in
    let close = too_far_back items far other k (label_index items l) j behind in
    let clash : ⊥ = omega (arith, close, beyond) in absurd clash))
