-- Sets of labels.
use Rattle.std.specs.Prelude.{◌≡◌, ℕ, ◌==◌, Bool, List, bytes_eq}
use Rattle.std.specs.HashSet.{HashSet, contains_by}
use Rattle.alpha_items.specs.declared.item.AsmItem.TheVariants.{Label}
use Rattle.alpha_lines.specs.Lines.{item_line}
use Rattle.alpha_text.specs.Wrong.{is_among}

-- whether a set has the label
abbrev pub has_label : {S : Type 0} → HashSet ℕ S → ℕ → Bool
has_label set l = contains_by (λ k. l == k) set

-- a set that has the labels of a list
abbrev pub IsIndex : {S : Type 0} → HashSet ℕ S → List ℕ → Type 0
IsIndex set labels = (l : ℕ) → has_label set l ≡ is_among labels l

-- whether a line names the label
abbrev pub is_label : ℕ → List ℕ → Bool
is_label l line = bytes_eq line (item_line (Label l))
