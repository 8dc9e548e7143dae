-- Items that stand in a text, from one word to another.
use Rattle.std.specs.Prelude.{◌≡◌, ℕ, ◌+◌, ◌<◌, ◌≤◌, ◌⊎◌, Bool, List, [], ◌∷◌, ◌++◌, length, slice_get}
use Rattle.alpha_isa.specs.declared.insn.Fields.{Fields}
use Rattle.alpha_isa.specs.Program.{Program, IsLawful, data_start, word_address, instruction_at}
use Rattle.alpha_items.specs.declared.item.AsmItem.{AsmItem}
use Rattle.alpha_items.specs.declared.item.AsmItem.TheVariants.{Label}
use Rattle.alpha_items.specs.Assembly.{Assembly, IsWhole}
use Rattle.alpha_items.specs.Layout.{item_words, text_words, label_place}
use Rattle.alpha_items.specs.Words.{item_insns, Words}

-- the words at which labels stand
abbrev pub Labels : Type 0
Labels = (label : ℕ) → ℕ

-- instructions stand in the text from a word on
abbrev pub InsnsAt : Program → (word : ℕ) → List Fields → Type 0
InsnsAt p w insns = (k : ℕ) → k < length insns → instruction_at p (word_address (w + k)) ≡ slice_get insns k

-- an item stands at a word, near or far; a label stands where it is
abbrev pub ItemStands : Program → Labels → (word : ℕ) → (far : Bool) → AsmItem → Type 0
ItemStands p there w far (Label l) = there l ≡ w
ItemStands p there w far i = InsnsAt p w (item_insns there (data_start p) w far i)

-- items stand there from a word to an end, each branch near or far
abbrev pub ItemsAt : Program → Labels → (word : ℕ) → List AsmItem → (end : ℕ) → Type 0
ItemsAt p there w [] end = w ≡ end
ItemsAt p there w (i ∷ items) end =
    (far : Bool) × ItemStands p there w far i ×
    ItemsAt p there (w + item_words far i) items end

-- the items of an assembly stand in its image,
abbrev pub ItemsStand : Type 0
ItemsStand =
    (a : Assembly) (p : Program) → IsLawful p → IsWhole a → (w : Words a p) →
    ItemsAt p (label_place a.items w.far) 0 a.items (text_words a.items w.far)

-- and those behind a label from its word on
abbrev pub LabelsStand : Type 0
LabelsStand =
    (a : Assembly) (p : Program) → IsLawful p → IsWhole a → (w : Words a p) →
    (front back : List AsmItem) (l : ℕ) → a.items ≡ front ++ Label l ∷ back →
    ItemsAt p (label_place a.items w.far) (label_place a.items w.far l) back (text_words a.items w.far)

-- each label stands in the text or at its end
abbrev pub LabelsAreWords : Type 0
LabelsAreWords =
    (a : Assembly) (p : Program) (w : Words a p) (l : ℕ) → label_place a.items w.far l ≤ length p.words

-- a label is among items; where they stand, it stands ahead, and none stands behind their end
abbrev pub HasLabel : (label : ℕ) → List AsmItem → Type 0
HasLabel l [] = ⊥
HasLabel l (i ∷ items) = (i ≡ Label l) ⊎ HasLabel l items

pub record LabelsStandAhead : Type 0 where
  pub ahead : (p : Program) (there : Labels) (l : ℕ) (items : List AsmItem) (w end : ℕ) →
      ItemsAt p there w items end → HasLabel l items → w ≤ there l
  pub within : (p : Program) (there : Labels) (items : List AsmItem) (w end : ℕ) →
      ItemsAt p there w items end → w ≤ end

-- the two parts of items that stand
pub record StandsInTwo (p : Program) (there : Labels) (word : ℕ) (front back : List AsmItem) (end : ℕ) : Type 0 where
  pub middle : ℕ
  pub first : ItemsAt p there word front middle
  pub second : ItemsAt p there middle back end

abbrev pub PartsStand : Type 0
PartsStand =
    (p : Program) (there : Labels) (word end : ℕ) (front back : List AsmItem) →
    ItemsAt p there word (front ++ back) end → StandsInTwo p there word front back end
