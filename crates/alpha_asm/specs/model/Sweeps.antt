-- How the far branches of a text are found: sweeps over it, from its front and from its end, of which each makes
-- the branches far that go too far in its direction.
use Rattle.std.specs.Prelude.{◌≡◌, ℕ, ◌+◌, ◌<◌, ◌≤◌, Bool, true, false, not, List, length, drop, slice_index, slice_index_or, Option, Some, None, unwrap_or}
use Rattle.std.specs.Bool.{MatchBool}
use Rattle.std.specs.List.{sum, count_by, position_from}
use Rattle.alpha_isa.specs.declared.insn.BranchOp.{BranchOp}
use Rattle.alpha_items.specs.declared.item.AsmItem.{AsmItem}
use Rattle.alpha_items.specs.declared.item.AsmItem.TheVariants.{Label, Branch}
use Rattle.alpha_items.specs.Items.{label_used, names_label}
use Rattle.alpha_items.specs.Assembly.{label_index}
use Rattle.alpha_items.specs.Layout.{sizes, item_place, label_place, is_far}

abbrev pub is_branch_item : AsmItem → Bool
is_branch_item (Branch op ra l) = true
is_branch_item _ = false

-- the number of the item that names the label which one uses, 0 where it uses none or there is no such item
abbrev pub label_target : List AsmItem → Option ℕ → ℕ
label_target items None = 0
label_target items (Some l) = unwrap_or (position_from (names_label l) 0 items) 0

abbrev pub target_of : List AsmItem → AsmItem → ℕ
target_of items i = label_target items (label_used i)

-- what is known of the targets of a text
pub record AreTargets (items : List AsmItem) (targets : List ℕ) : Type 0 where
  pub one_each : length targets ≡ length items
  pub inside : (k : ℕ) → k < length items → slice_index targets k < length items
  pub right : (k : ℕ) (d : AsmItem) (l : ℕ) → k < length items → label_used (slice_index_or items k d) ≡ Some l →
      slice_index targets k ≡ label_index items l

-- how many items are not far, the words of a text from an item on, and how far a branch reaches
abbrev pub near : List Bool → ℕ
near far = count_by not far

abbrev pub rest : List AsmItem → List Bool → ℕ → ℕ
rest items far k = sum (drop k (sizes items far))

abbrev pub reach : ℕ
reach = 1048576

-- the branch at k, where there is one that is not far, and its label stands before it, goes no farther than it may
abbrev pub BackReachesAt : List AsmItem → List Bool → ℕ → Type 0
BackReachesAt items far k =
    (op : BranchOp) (ra l : ℕ) → slice_index_or items k (Label 0) ≡ Branch op ra l → is_far far k ≡ false →
    label_index items l ≤ k →
    item_place items far k + 1 ≤ label_place items far l + reach

-- or its label stands behind it
abbrev pub ForthReachesAt : List AsmItem → List Bool → ℕ → Type 0
ForthReachesAt items far k =
    (op : BranchOp) (ra l : ℕ) → slice_index_or items k (Label 0) ≡ Branch op ra l → is_far far k ≡ false →
    k < label_index items l →
    rest items far (k + 1) < rest items far (label_index items l) + reach

-- there is such a branch, and it goes too far
pub record TooFarBack (items : List AsmItem) (far : List Bool) (k : ℕ) : Type 0 where
  pub op : BranchOp
  pub ra : ℕ
  pub l : ℕ
  pub is_branch : slice_index_or items k (Label 0) ≡ Branch op ra l
  pub short : is_far far k ≡ false
  pub behind : label_index items l ≤ k
  pub beyond : label_place items far l + reach < item_place items far k + 1

pub record TooFarForth (items : List AsmItem) (far : List Bool) (k : ℕ) : Type 0 where
  pub op : BranchOp
  pub ra : ℕ
  pub l : ℕ
  pub is_branch : slice_index_or items k (Label 0) ≡ Branch op ra l
  pub short : is_far far k ≡ false
  pub ahead : k < label_index items l
  pub beyond : rest items far (label_index items l) + reach ≤ rest items far (k + 1)

-- a sweep made a branch far, or left all as it was
abbrev pub GrowsWhere : List Bool → List Bool → Bool → Type 0
GrowsWhere old new grew = MatchBool grew (near new < near old) (new ≡ old)

-- the places of the items and of the end
pub record ArePlaces (items : List AsmItem) (far : List Bool) (places : List ℕ) : Type 0 where
  pub room : length places ≡ length items + 1
  pub at : (k : ℕ) → k ≤ length items → slice_index places k ≡ item_place items far k

-- a sweep from the front has come so far: the places up to there, and the branches before it
pub record SweptBack (items : List AsmItem) (far : List Bool) (places : List ℕ) (i : ℕ) : Type 0 where
  pub one_each : length far ≡ length items
  pub room : length places ≡ length items + 1
  pub at : (k : ℕ) → k ≤ i → slice_index places k ≡ item_place items far k
  pub reach : (k : ℕ) → k < i → BackReachesAt items far k

-- a sweep from the end has come so far: what stands from there on, and the branches behind it
pub record SweptForth (items : List AsmItem) (far : List Bool) (rests : List ℕ) (i : ℕ) : Type 0 where
  pub one_each : length far ≡ length items
  pub room : length rests ≡ length items + 1
  pub at : (k : ℕ) → i ≤ k → k ≤ length items → slice_index rests k ≡ rest items far k
  pub reach : (k : ℕ) → i ≤ k → k < length items → ForthReachesAt items far k
