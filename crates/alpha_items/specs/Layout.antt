-- Where the items of a text stand, in words, and which of its branches are far.
use Rattle.std.specs.Prelude.{◌≡◌, ℕ, ◌+◌, ◌<◌, ℤ, pos, ◌-ℤ◌, Bool, true, false, List, [], ◌∷◌, length, take, slice_index_or, if◌then◌else◌}
use Rattle.std.specs.List.{sum}
use Rattle.alpha_isa.specs.Lawful.{IsBranchDisplacement}
use Rattle.alpha_isa.specs.Step.{links}
use Rattle.alpha_items.specs.declared.item.AsmItem.{AsmItem}
use Rattle.alpha_items.specs.declared.item.AsmItem.TheVariants.{Label, Name, Plain, Branch, TextAddress, DataAddress}
use Rattle.alpha_items.specs.Assembly.{label_index}

-- the words of an item. A far branch is an address and a jump, behind the inverse branch where it has a condition
abbrev pub item_words : Bool → AsmItem → ℕ
item_words far (Label l) = 0
item_words far (Name bytes) = 0
item_words far (Plain insn) = 1
item_words far (Branch op ra l) = if far then (if links op then 3 else 4) else 1
item_words far (TextAddress ra l) = 2
item_words far (DataAddress ra offset) = 2

-- the words of each item of a text, of which a list says which ones are far
abbrev pub sizes : List AsmItem → List Bool → List ℕ
sizes [] far = []
sizes (i ∷ items) [] = []
sizes (i ∷ items) (f ∷ far) = item_words f i ∷ sizes items far

-- the words of a text, those before its k-th item, and those before a label
abbrev pub text_words : List AsmItem → List Bool → ℕ
text_words items far = sum (sizes items far)

abbrev pub item_place : List AsmItem → List Bool → ℕ → ℕ
item_place items far k = sum (take k (sizes items far))

abbrev pub label_place : List AsmItem → List Bool → ℕ → ℕ
label_place items far l = item_place items far (label_index items l)

-- how many words past the next one a branch at a word goes, and whether a branch reaches so far
abbrev pub displacement : ℕ → ℕ → ℤ
displacement here there = pos there -ℤ pos (here + 1)

abbrev pub ItemReaches : (ℕ → ℕ) → ℕ → AsmItem → Type 0
ItemReaches there here (Branch op ra l) = IsBranchDisplacement (displacement here (there l))
ItemReaches there here _ = Unit {0}

abbrev pub is_far : List Bool → ℕ → Bool
is_far far k = slice_index_or far k false

-- every branch that is not far reaches its label
abbrev pub AllReach : List AsmItem → List Bool → Type 0
AllReach items far =
    (k : ℕ) (d : AsmItem) → k < length items → is_far far k ≡ false →
    ItemReaches (label_place items far) (item_place items far k) (slice_index_or items k d)

-- the far ones of a list are far in another
abbrev pub Within : List Bool → List Bool → Type 0
Within far other = (k : ℕ) → is_far far k ≡ true → is_far other k ≡ true

-- the far branches are within every such list with which the others reach
abbrev pub IsForced : List AsmItem → List Bool → Type 0
IsForced items far = (other : List Bool) → length other ≡ length items → AllReach items other → Within far other

-- the far branches of a text: the least such that every other branch reaches
pub record IsLeastFar (items : List AsmItem) (far : List Bool) : Type 0 where
  pub one_each : length far ≡ length items
  pub others_reach : AllReach items far
  pub least : IsForced items far
