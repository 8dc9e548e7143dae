-- What a line before the data says, and whether it may stand there.
use Rattle.std.specs.Prelude.{◌≡◌, ℕ, ◌<◌, ◌^◌, List, Option, Some, None}
use Rattle.alpha_items.specs.declared.item.AsmItem.{AsmItem}
use Rattle.alpha_lines.specs.Lines.{HasLine, item_line, data_line}
use Rattle.alpha_text.specs.declared.items.LineMeaning.{LineMeaning}
use Rattle.alpha_text.specs.declared.items.LineMeaning.TheVariants as said
use Rattle.alpha_text.specs.Wrong.{FitsBehind, HasEntry, Form, Item, Count, Text, Says}

abbrev pub form_of : LineMeaning → Form
form_of (said.Item i) = Item i
form_of (said.Count n) = Count n

-- the line is that of an item, or of a count
abbrev pub IsSpelled : List ℕ → LineMeaning → Type 0
IsSpelled line (said.Item i) = HasLine i × (line ≡ item_line i)
IsSpelled line (said.Count n) = (n < 2 ^ 64) × (line ≡ data_line n)

-- the same, where nothing says that it is of neither
abbrev pub IsSaid : List ℕ → Option LineMeaning → Type 0
IsSaid line (Some s) = IsSpelled line s × ((t : LineMeaning) → IsSpelled line t → s ≡ t)
IsSaid line None = (t : LineMeaning) → ¬ (IsSpelled line t)

abbrev pub StandsBehind : List (List ℕ) → List AsmItem → LineMeaning → Type 0
StandsBehind lines items (said.Item i) = FitsBehind lines items i
StandsBehind lines items (said.Count n) = HasEntry items

-- the line says this and may stand behind the items, or nothing that may
abbrev pub IsNext : List (List ℕ) → List AsmItem → List ℕ → Option LineMeaning → Type 0
IsNext lines items line (Some s) = Says lines (Text items) line (form_of s)
IsNext lines items line None = (form : Form) → ¬ (Says lines (Text items) line form)
