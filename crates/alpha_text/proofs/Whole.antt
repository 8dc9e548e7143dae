-- What stands at the end of a text with no wrong line is whole.
use Rattle.std.proofs.Common.{◌≡◌, ℕ, suc, ◌^◌, ◌<◌, ◌≤◌, ◌||◌, Bool, true, false, eqb, List, [], ◌∷◌, ◌++◌, Option, Some, None, length, get_or, drop, map, refl, sym, ap, ◌∙◌, inl, inr, ◌⊎◌, arith}
use Rattle.std.specs.Prelude.{IfSome, find, codes, bytes_eq}
use Rattle.std.specs.List.{All, Contains, list_any}
use Rattle.std.proofs.lemmas.Bool.{eqb-true, eq-eqb}
use Rattle.std.proofs.lemmas.Bool.Decides.{Decides-eqb}
use Rattle.std.proofs.lemmas.Slice.Eq.{bytes_eq-Decides, starts_is}
use Rattle.std.proofs.lemmas.List.Folds.{list_any-append}
use Rattle.std.proofs.lemmas.List.Elements.{All-head, All-tail}
use Rattle.std.proofs.lemmas.Map.Views.{Contains-from_any}
use Rattle.alpha_isa.specs.Program.{most_bytes}
use Rattle.alpha_items.specs.declared.item.AsmItem.{AsmItem}
use Rattle.alpha_items.specs.declared.item.AsmItem.TheVariants.{Label, Name, Plain, Branch, TextAddress, DataAddress}
use Rattle.alpha_items.specs.declared.item.Fix.{Fix}
use Rattle.alpha_items.specs.Items.{label_used, IsItem}
use Rattle.alpha_items.specs.Assembly.{labels, IsWhole}
use Rattle.alpha_lines.specs.Lines.{HasLine, item_line, data_line, fix_line}
use Rattle.alpha_lines.specs.model.Mnemonics.{mnemonics, mnemonic_of}
use Rattle.alpha_lines.specs.model.Readers.{item_of}
use Rattle.alpha_lines.proofs.Items.{item_complete}
use Rattle.alpha_text.specs.Texts.{Texts, HasText, ended_lines, hex_rows, hex_lines, asm_text}
use Rattle.alpha_text.specs.Wrong.{lines_of, is_ended, Nothing, Data, is_label_named, is_among, begins_data, NoneWrong}
use Rattle.alpha_text.proofs.Lines.{lines_joined}
use Rattle.alpha_text.proofs.Sound.{IsKnown, IsSane, said_lines, well_sound}

-- the line of the count is the first that begins with `.data`

pub no_item_data : (rest : List ℕ) → item_of (codes ".data " ++ rest) ≡ None
unfolding item_of mnemonic_of mnemonics
no_item_data rest = refl

item_not_data : (i : AsmItem) → HasLine i → begins_data (item_line i) ≡ false
item_not_data i h = by (begins_data (item_line i)) refl
  where
    by : (t : Bool) → begins_data (item_line i) ≡ t → begins_data (item_line i) ≡ false
    by false e = e
    by true e =
        let text : item_line i ≡ codes ".data " ++ drop (length (codes ".data ")) (item_line i) = (starts_is Decides-eqb (item_line i) (codes ".data ") (begins_data (item_line i)) refl).0 e in
        let clash : ◌≡◌ {A = Option AsmItem} (Some i) None = sym (item_complete i h) ∙ (ap item_of text ∙ no_item_data (drop (length (codes ".data ")) (item_line i))) in
        absurd (cc)

find_items : (items : List AsmItem) (rest : List (List ℕ)) → All HasLine items → find begins_data (map item_line items ++ rest) ≡ find begins_data rest
find_items [] rest h = refl
find_items (i ∷ items) rest h = rw (item_not_data i (All-head HasLine i items h)) (find_items items rest (All-tail HasLine i items h))

pub find_count : (items : List AsmItem) (n : ℕ) (bytes : List ℕ) (fixes : List Fix) → All HasLine items → find begins_data (said_lines (Data items n bytes fixes)) ≡ Some (data_line n)
find_count items n bytes fixes h = find_items items (data_line n ∷ (hex_lines bytes ++ map fix_line fixes)) h

-- only the items name labels

abbrev is_label : ℕ → List ℕ → Bool
is_label l line = bytes_eq line (item_line (Label l))

rows_no_label : (l k : ℕ) (s : List ℕ) → list_any (is_label l) (hex_rows k s) ≡ false
rows_no_label l Prim.Native.Nat.zero s = refl
rows_no_label l (suc k) [] = refl
rows_no_label l (suc k) (b ∷ s) = rows_no_label l k (drop 32 (b ∷ s))

hex_no_label : (l : ℕ) (s : List ℕ) → list_any (is_label l) (hex_lines s) ≡ false
unfolding hex_lines
hex_no_label l s = rows_no_label l (length s) s

fixes_no_label : (l : ℕ) (fixes : List Fix) → list_any (is_label l) (map fix_line fixes) ≡ false
fixes_no_label l [] = refl
fixes_no_label l (fix ∷ fixes) = fixes_no_label l fixes

or_true : (a b : Bool) → (a || b) ≡ true → (a ≡ true) ⊎ (b ≡ true)
or_true true b e = inl refl
or_true false b e = inr e

or_right : (a b : Bool) → b ≡ true → (a || b) ≡ true
or_right true b e = refl
or_right false b e = e

among_behind : (i : AsmItem) (items : List AsmItem) (l : ℕ) → is_among (labels items) l ≡ true → is_among (labels (i ∷ items)) l ≡ true
among_behind (Label m) items l h = or_right (eqb l m) (is_among (labels items) l) h
among_behind (Name name) items l h = h
among_behind (Plain insn) items l h = h
among_behind (Branch op ra m) items l h = h
among_behind (TextAddress ra m) items l h = h
among_behind (DataAddress ra offset) items l h = h

among_first : (i : AsmItem) (items : List AsmItem) (l : ℕ) → i ≡ Label l → is_among (labels (i ∷ items)) l ≡ true
among_first i items l e = rw e (or_left (eqb l l) (is_among (labels items) l) (eq-eqb l l refl))
  where
    or_left : (a b : Bool) → a ≡ true → (a || b) ≡ true
    or_left true b e = refl
    or_left false b e = absurd (cc)

items_name : (items : List AsmItem) (l : ℕ) → l < 2 ^ 32 → All HasLine items → list_any (is_label l) (map item_line items) ≡ true → is_among (labels items) l ≡ true
items_name [] l small h e = absurd (cc)
items_name (i ∷ items) l small h e = elim (or_true (is_label l (item_line i)) (list_any (is_label l) (map item_line items)) e) [
  | inl here ↦ among_first i items l (is_the i l small (All-head HasLine i items h) ((bytes_eq-Decides (item_line i) (item_line (Label l))).0 here))
  | inr later ↦ among_behind i items l (items_name items l small (All-tail HasLine i items h) later)
]
  where
    is_the : (i : AsmItem) (l : ℕ) → l < 2 ^ 32 → HasLine i → item_line i ≡ item_line (Label l) → i ≡ Label l
    is_the i l small h e =
        let same : ◌≡◌ {A = Option AsmItem} (Some i) (Some (Label l)) = sym (item_complete i h) ∙ (ap item_of e ∙ item_complete (Label l) small) in
        cc

pub named_among : (items : List AsmItem) (n : ℕ) (bytes : List ℕ) (fixes : List Fix) (l : ℕ) → l < 2 ^ 32 → All HasLine items → is_label_named (said_lines (Data items n bytes fixes)) l ≡ true → is_among (labels items) l ≡ true
named_among items n bytes fixes l small h e =
    let behind : list_any (is_label l) (hex_lines bytes ++ map fix_line fixes) ≡ false = list_any-append (is_label l) (hex_lines bytes) (map fix_line fixes) ∙ rw (hex_no_label l bytes, fixes_no_label l fixes) refl in
    let whole = sym (list_any-append (is_label l) (map item_line items) (data_line n ∷ (hex_lines bytes ++ map fix_line fixes))) ∙ e in
    elim (or_true (list_any (is_label l) (map item_line items)) (list_any (is_label l) (data_line n ∷ (hex_lines bytes ++ map fix_line fixes))) whole) [
      | inl here ↦ items_name items l small h here
      | inr later ↦ absurd (differ (list_any (is_label l) (hex_lines bytes ++ map fix_line fixes)) behind later)
    ]
  where
    differ : (b : Bool) → b ≡ false → b ≡ true → ⊥
    differ b e f = let clash : ◌≡◌ {A = Bool} false true = sym e ∙ f in absurd (cc)

-- wholeness

item_is : (all : List (List ℕ)) (n : ℕ) (i : AsmItem) → n < 2 ^ 64 → find begins_data all ≡ Some (data_line n) → HasLine i → IsKnown all i → IsItem n i
item_is all n (Label l) small found h k = tt
item_is all n (Name name) small found h k = h
item_is all n (Plain insn) small found h k = h
item_is all n (Branch op ra l) small found h k = h.0
item_is all n (TextAddress ra l) small found h k = h.0
item_is all n (DataAddress ra offset) small found h k = (h.0, k n small found)

used_is : (all : List (List ℕ)) (items : List AsmItem) (i : AsmItem) → ((l : ℕ) → l < 2 ^ 32 → is_label_named all l ≡ true → is_among (labels items) l ≡ true) → HasLine i → IsKnown all i → IfSome (label_used i) (λ l. Contains (labels items) l)
used_is all items (Label l) f h k = tt
used_is all items (Name name) f h k = tt
used_is all items (Plain insn) f h k = tt
used_is all items (Branch op ra l) f h k = Contains-from_any eqb-true l (labels items) (f l h.1 k)
used_is all items (TextAddress ra l) f h k = Contains-from_any eqb-true l (labels items) (f l h.1 k)
used_is all items (DataAddress ra offset) f h k = tt

pub whole_at : (all : List (List ℕ)) (items : List AsmItem) (n : ℕ) (bytes : List ℕ) (fixes : List Fix) → all ≡ said_lines (Data items n bytes fixes) → IsSane all (Data items n bytes fixes) → length bytes ≡ n → n ≤ most_bytes → IsWhole (record { items = items; bytes = bytes; fixes = fixes })
whole_at all items n bytes fixes same sane full low =
    let found : find begins_data all ≡ Some (data_line n) = ap (find begins_data) same ∙ find_count items n bytes fixes sane.0.fields in
    record {
      items = λ k d h. item_is all (length bytes) (get_or items k d) (rw full sane.1.small) (found ∙ rw full refl) (sane.0.fields k d h) (sane.0.known k d h);
      labels_once = sane.0.once;
      labels_used = λ k d h. used_is all items (get_or items k d) (λ l small e. named_among items n bytes fixes l small sane.0.fields (ap (λ t. is_label_named t l) (sym same) ∙ e)) (sane.0.fields k d h) (sane.0.known k d h);
      entry = sane.1.entry;
      bytes = omega (arith, full, low);
      fixes = λ k d h. rw full (sane.1.placed k d h);
      fixes_apart = sane.1.apart;
    }

-- a text with no wrong line
pub read_whole : (text : List ℕ) (items : List AsmItem) (n : ℕ) (bytes : List ℕ) (fixes : List Fix) → NoneWrong text (Data items n bytes fixes) → n ≤ most_bytes → IsWhole (record { items = items; bytes = bytes; fixes = fixes })
read_whole text items n bytes fixes none low =
    let sound = well_sound (lines_of text) Nothing (lines_of text) (is_ended text) (Data items n bytes fixes) tt none in
    whole_at (lines_of text) items n bytes fixes sound.3 sound.0 sound.1 low

pub read_text : (text : List ℕ) (items : List AsmItem) (n : ℕ) (bytes : List ℕ) (fixes : List Fix) → NoneWrong text (Data items n bytes fixes) → Texts text (record { items = items; bytes = bytes; fixes = fixes })
unfolding asm_text
read_text text items n bytes fixes none =
    let sound = well_sound (lines_of text) Nothing (lines_of text) (is_ended text) (Data items n bytes fixes) tt none in
    let full : length bytes ≡ n = sound.1 in
    sym (lines_joined text sound.2) ∙ (ap ended_lines sound.3 ∙ rw (← full) refl)

pub read_fields : (text : List ℕ) (items : List AsmItem) (n : ℕ) (bytes : List ℕ) (fixes : List Fix) → NoneWrong text (Data items n bytes fixes) → HasText (record { items = items; bytes = bytes; fixes = fixes })
read_fields text items n bytes fixes none =
    let sound = well_sound (lines_of text) Nothing (lines_of text) (is_ended text) (Data items n bytes fixes) tt none in
    (sound.0.0.fields, sound.0.1.range)
