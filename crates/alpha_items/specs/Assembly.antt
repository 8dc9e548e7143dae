-- An assembly, and when it is whole.
use Rattle.std.specs.Prelude.{◌≢◌, ℕ, ◌+◌, ◌≤◌, IsTrue, List, length, drop, IfSome}
use Rattle.std.specs.List.{All, AllPairs, AllAdjacentBelow, Contains, filter_map, list_any, position_or_len}
use Rattle.alpha_isa.specs.Program.{most_bytes}
use Rattle.alpha_items.specs.declared.item.AsmItem.{AsmItem}
use Rattle.alpha_items.specs.declared.item.Fix.{Fix}
use Rattle.alpha_items.specs.Items.{label_named, label_used, names_label, gives_word, IsItem}

-- the items of the text, the bytes of the data, and the places of the data that hold addresses
pub record Assembly : Type 0 where
  pub items : List AsmItem
  pub bytes : List ℕ
  pub fixes : List Fix

-- the labels that the items name, in order
abbrev pub labels : List AsmItem → List ℕ
labels items = filter_map label_named items

-- how many items stand before the one that names a label
abbrev pub label_index : List AsmItem → ℕ → ℕ
label_index items l = position_or_len (names_label l) items

-- the 8 bytes of a fix lie within data of so many bytes, and so does its offset, which may be the end
abbrev pub IsFix : ℕ → Fix → Type 0
IsFix size fix = (fix.at + 8 ≤ size) × (fix.offset ≤ size)

-- each field is in its range; each label is named at most once, and named where it is used; label 0 is named
-- before some item that gives a word; the fixes rise, apart by at least the 8 bytes of each
pub record IsWhole (a : Assembly) : Type 0 where
  pub items : All (λ i. IsItem (length a.bytes) i) a.items
  pub labels_once : AllPairs (λ l m. l ≢ m) (labels a.items)
  pub labels_used : All (λ i. IfSome (label_used i) (λ l. Contains (labels a.items) l)) a.items
  pub entry : IsTrue (list_any gives_word (drop (label_index a.items 0) a.items))
  pub bytes : length a.bytes ≤ most_bytes
  pub fixes : All (λ f. IsFix (length a.bytes) f) a.fixes
  pub fixes_apart : AllAdjacentBelow (λ f g. f.at + 8 ≤ g.at) a.fixes (length a.fixes)
