-- The first line of a text that is in no form where it stands.
use Rattle.std.specs.Prelude.{◌≡◌, ℕ, ◌+◌, ◌-◌, ◌^◌, ◌<◌, ◌≤◌, Bool, true, IsTrue, not, ◌==◌, nat_eq, bytes_eq, if◌then◌else◌, List, [], ◌∷◌, ◌++◌, length, drop, min, find, codes, Some, IfSome, slice_get, ◌⊎◌}
use Rattle.std.specs.List.{All, list_any, starts_with}
use Rattle.alpha_items.specs.declared.item.AsmItem.{AsmItem}
use Rattle.alpha_items.specs.declared.item.AsmItem.TheVariants.{Label, Branch, TextAddress, DataAddress}
use Rattle.alpha_items.specs.declared.item.Fix.{Fix}
use Rattle.alpha_items.specs.Items.{gives_word}
use Rattle.alpha_items.specs.Assembly.{labels, label_index, IsFix}
use Rattle.alpha_lines.specs.Lines.{HasLine, head_line, item_line, data_line, hex_line, fix_line}

-- the lines of a text; bytes behind the last line feed are no line
abbrev pub byte_in_front : ℕ → List (List ℕ) → List (List ℕ)
byte_in_front b [] = []
byte_in_front b (line ∷ lines) = (b ∷ line) ∷ lines

abbrev pub lines_of : List ℕ → List (List ℕ)
lines_of [] = []
lines_of (b ∷ s) = if b == 10 then [] ∷ lines_of s else byte_in_front b (lines_of s)

-- whether no bytes stand behind the last line feed
abbrev pub is_ended : List ℕ → Bool
is_ended [] = true
is_ended (b ∷ []) = b == 10
is_ended (b ∷ c ∷ s) = is_ended (c ∷ s)

-- what a line says
pub data Form : Type 0 where
  Head : Form
  Item : AsmItem → Form
  Count : ℕ → Form
  Row : List ℕ → Form
  Place : Fix → Form

abbrev pub form_line : Form → List ℕ
form_line Head = head_line
form_line (Item i) = item_line i
form_line (Count n) = data_line n
form_line (Row bytes) = hex_line bytes
form_line (Place fix) = fix_line fix

-- its numbers are in their fields
abbrev pub InFields : Form → Type 0
InFields Head = Unit {0}
InFields (Item i) = HasLine i
InFields (Count n) = n < 2 ^ 64
InFields (Row bytes) = All (λ b. b < 256) bytes
InFields (Place fix) = (fix.at < 2 ^ 32) × (fix.offset < 2 ^ 32)

-- what the lines so far say: nothing, the head and items, or the count of the data too, with some of its
-- bytes and fixes
pub data TextSoFar : Type 0 where
  Nothing : TextSoFar
  Text : List AsmItem → TextSoFar
  Data : List AsmItem → ℕ → List ℕ → List Fix → TextSoFar

-- whether some line of the text names the label
abbrev pub is_label_named : List (List ℕ) → ℕ → Bool
is_label_named lines l = list_any (λ line. bytes_eq line (item_line (Label l))) lines

-- whether a label is among these
abbrev pub is_among : List ℕ → ℕ → Bool
is_among labels l = list_any (λ m. l == m) labels

-- the first line that begins with `.data` gives no count that is less
abbrev pub begins_data : List ℕ → Bool
begins_data line = starts_with nat_eq line (codes ".data ")

abbrev pub IsWithinData : List (List ℕ) → ℕ → Type 0
IsWithinData lines offset = (n : ℕ) → n < 2 ^ 64 → find begins_data lines ≡ Some (data_line n) → offset ≤ n

-- an item may stand behind these ones: a label is new, one that is used is named by some line, and an offset
-- is within the data
abbrev pub FitsBehind : List (List ℕ) → List AsmItem → AsmItem → Type 0
FitsBehind lines items (Label l) = IsTrue (not (is_among (labels items) l))
FitsBehind lines items (Branch op ra l) = IsTrue (is_label_named lines l)
FitsBehind lines items (TextAddress ra l) = IsTrue (is_label_named lines l)
FitsBehind lines items (DataAddress ra offset) = IsWithinData lines offset
FitsBehind lines items _ = Unit {0}

-- label 0 is named, and some item behind it gives a word
abbrev pub HasEntry : List AsmItem → Type 0
HasEntry items = IsTrue (list_any gives_word (drop (label_index items 0) items))

-- a fix begins at least 8 behind the last one
abbrev pub IsBehind : List Fix → Fix → Type 0
IsBehind fixes next = IfSome (slice_get fixes (length fixes - 1)) (λ fix. fix.at + 8 ≤ next.at)

-- a line may say this behind the lines so far, in a text of these lines
abbrev pub MayStand : List (List ℕ) → TextSoFar → Form → Type 0
MayStand lines Nothing Head = Unit {0}
MayStand lines (Text items) (Item i) = FitsBehind lines items i
MayStand lines (Text items) (Count n) = HasEntry items
MayStand lines (Data items n bytes fixes) (Row row) = (length bytes < n) × (length row ≡ min 32 (n - length bytes))
MayStand lines (Data items n bytes fixes) (Place fix) = (length bytes ≡ n) × IsFix n fix × IsBehind fixes fix
MayStand lines _ _ = ⊥

-- what stands with one line more
abbrev pub with_form : TextSoFar → Form → TextSoFar
with_form Nothing form = Text []
with_form (Text items) (Item i) = Text (items ++ i ∷ [])
with_form (Text items) (Count n) = Data items n [] []
with_form (Data items n bytes fixes) (Row row) = Data items n (bytes ++ row) fixes
with_form (Data items n bytes fixes) (Place fix) = Data items n bytes (fixes ++ fix ∷ [])
with_form standing _ = standing

-- the line says this, and may stand there
pub record Says (lines : List (List ℕ)) (standing : TextSoFar) (line : List ℕ) (form : Form) : Type 0 where
  pub fields : InFields form
  pub spelled : line ≡ form_line form
  pub stands : MayStand lines standing form

-- no line is missing
abbrev pub IsComplete : TextSoFar → Type 0
IsComplete (Data items n bytes fixes) = length bytes ≡ n
IsComplete _ = ⊥

-- of the lines that are left, from this number on, the first that is in no form; where a line is missing, or
-- bytes are left, it is the number of lines plus one
abbrev pub WrongFrom : List (List ℕ) → TextSoFar → ℕ → List (List ℕ) → Bool → ℕ → Type 0
WrongFrom lines standing k [] with_line_feed n = (¬ (IsComplete standing × IsTrue with_line_feed)) × (n ≡ k)
WrongFrom lines standing k (line ∷ rest) with_line_feed n =
    (((form : Form) → ¬ (Says lines standing line form)) × (n ≡ k))
    ⊎ ((form : Form) × Says lines standing line form
    × WrongFrom lines (with_form standing form) (k + 1) rest with_line_feed n)

-- the lines that are left are all in form, and this is what stands at the end
abbrev pub WellFrom : List (List ℕ) → TextSoFar → List (List ℕ) → Bool → TextSoFar → Type 0
WellFrom lines standing [] with_line_feed final = IsComplete standing × IsTrue with_line_feed × (final ≡ standing)
WellFrom lines standing (line ∷ rest) with_line_feed final =
    (form : Form) × Says lines standing line form × WellFrom lines (with_form standing form) rest with_line_feed final

-- the first line of the text that is in no form, and what stands where there is none
abbrev pub FirstWrong : List ℕ → ℕ → Type 0
FirstWrong text n = WrongFrom (lines_of text) Nothing 1 (lines_of text) (is_ended text) n

abbrev pub NoneWrong : List ℕ → TextSoFar → Type 0
NoneWrong text final = WellFrom (lines_of text) Nothing (lines_of text) (is_ended text) final
