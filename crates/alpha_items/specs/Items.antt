-- What the items of an assembly name and use, and the ranges of their fields.
use Rattle.std.specs.Prelude.{ℕ, ◌≤◌, nat_le, Bool, true, false, IsTrue, not, ◌&&◌, ◌||◌, ◌==◌, List, [], ◌∷◌, Option, Some, None}
use Rattle.std.specs.List.{list_all}
use Rattle.alpha_isa.specs.declared.insn.Fields.{Fields}
use Rattle.alpha_isa.specs.declared.insn.Fields.TheVariants as fields
use Rattle.alpha_isa.specs.Lawful.{IsRegister, AreLawfulFields}
use Rattle.alpha_items.specs.declared.item.AsmItem.{AsmItem}
use Rattle.alpha_items.specs.declared.item.AsmItem.TheVariants.{Label, Name, Plain, Branch, TextAddress, DataAddress}

-- the bytes of a name: a letter or `_`, then letters, digits and `_`
abbrev pub is_letter : ℕ → Bool
is_letter b = (nat_le 65 b && nat_le b 90) || (nat_le 97 b && nat_le b 122) || b == 95

abbrev pub is_letter_or_digit : ℕ → Bool
is_letter_or_digit b = is_letter b || (nat_le 48 b && nat_le b 57)

abbrev pub is_name : List ℕ → Bool
is_name [] = false
is_name (b ∷ bytes) = is_letter b && list_all is_letter_or_digit bytes

-- the label that an item names, and the label that one uses
abbrev pub label_named : AsmItem → Option ℕ
label_named (Label l) = Some l
label_named _ = None

abbrev pub label_used : AsmItem → Option ℕ
label_used (Branch op ra l) = Some l
label_used (TextAddress ra l) = Some l
label_used _ = None

-- whether an item names this label, and whether it gives a word
abbrev pub names_label : ℕ → AsmItem → Bool
names_label l (Label m) = m == l
names_label l _ = false

abbrev pub gives_word : AsmItem → Bool
gives_word (Label l) = false
gives_word (Name bytes) = false
gives_word _ = true

abbrev pub is_branch : Fields → Bool
is_branch (fields.Branch op ra disp) = true
is_branch _ = false

-- each field is in its range, beside data of so many bytes
abbrev pub IsItem : ℕ → AsmItem → Type 0
IsItem size (Label l) = Unit {0}
IsItem size (Name bytes) = IsTrue (is_name bytes)
IsItem size (Plain insn) = AreLawfulFields insn × IsTrue (not (is_branch insn))
IsItem size (Branch op ra l) = IsRegister ra
IsItem size (TextAddress ra l) = IsRegister ra
IsItem size (DataAddress ra offset) = IsRegister ra × (offset ≤ size)
