-- A line says one thing at most where it stands, so a text has one first wrong line or one end.
use Rattle.std.proofs.Common.{◌≡◌, ℕ, ◌+◌, ◌^◌, ◌<◌, Bool, List, [], ◌∷◌, Option, Some, None, length, refl, sym, ap, ◌∙◌, subst, inl, inr, arith}
use Rattle.std.specs.Prelude.{decimal}
use Rattle.std.specs.List.{All}
use Rattle.alpha_items.specs.declared.item.AsmItem.{AsmItem}
use Rattle.alpha_items.specs.declared.item.Fix.{Fix}
use Rattle.alpha_lines.specs.Lines.{HasLine, item_line, data_line, hex_line, fix_line}
use Rattle.alpha_lines.specs.model.Readers.{item_of}
use Rattle.alpha_lines.specs.model.Data.{data_of, fix_of, hex_line_of}
use Rattle.alpha_lines.proofs.Items.{item_complete}
use Rattle.alpha_lines.proofs.DataLines.{data_complete, fix_complete, hex_line_complete}
use Rattle.alpha_text.specs.Wrong.{TextSoFar, Nothing, Text, Data, Form, Head, Item, Count, Row, Place, InFields, with_form, Says, WrongFrom, WellFrom}
use Rattle.alpha_text.proofs.Whole.{no_item_data}

item_same : (line : List ℕ) (i j : AsmItem) → HasLine i → HasLine j → line ≡ item_line i → line ≡ item_line j → i ≡ j
item_same line i j h k e f =
    let same : ◌≡◌ {A = Option AsmItem} (Some i) (Some j) = sym (item_complete i h) ∙ (ap item_of (sym e ∙ f) ∙ item_complete j k) in
    cc

not_both : (line : List ℕ) (i : AsmItem) (n : ℕ) → HasLine i → line ≡ item_line i → line ≡ data_line n → ⊥
not_both line i n h e f =
    let clash : ◌≡◌ {A = Option AsmItem} (Some i) None = sym (item_complete i h) ∙ (ap item_of (sym e ∙ f) ∙ no_item_data (decimal n)) in
    absurd (cc)

count_same : (line : List ℕ) (m n : ℕ) → m < 2 ^ 64 → n < 2 ^ 64 → line ≡ data_line m → line ≡ data_line n → m ≡ n
count_same line m n h k e f =
    let same : ◌≡◌ {A = Option ℕ} (Some m) (Some n) = sym (data_complete m h) ∙ (ap data_of (sym e ∙ f) ∙ data_complete n k) in
    cc

row_same : (line a b : List ℕ) → All (λ x. x < 256) a → All (λ x. x < 256) b → line ≡ hex_line a → line ≡ hex_line b → a ≡ b
row_same line a b h k e f =
    let same : ◌≡◌ {A = Option (List ℕ)} (Some a) (Some b) = sym (hex_line_complete a h) ∙ (ap hex_line_of (sym e ∙ f) ∙ hex_line_complete b k) in
    cc

place_same : (line : List ℕ) (a b : Fix) → InFields (Place a) → InFields (Place b) → line ≡ fix_line a → line ≡ fix_line b → a ≡ b
place_same line a b h k e f =
    let same : ◌≡◌ {A = Option Fix} (Some a) (Some b) = sym (fix_complete a h.0 h.1) ∙ (ap fix_of (sym e ∙ f) ∙ fix_complete b k.0 k.1) in
    cc

open_or_full : (m n : ℕ) → m < n → m ≡ n → ⊥
open_or_full m n h k = omega arith

pub says_one : (all : List (List ℕ)) (st : TextSoFar) (line : List ℕ) (f g : Form) → Says all st line f → Says all st line g → f ≡ g
says_one all Nothing line Head Head a b = refl
says_one all Nothing line Head (Item j) a b = absurd b.stands
says_one all Nothing line Head (Count m) a b = absurd b.stands
says_one all Nothing line Head (Row y) a b = absurd b.stands
says_one all Nothing line Head (Place g) a b = absurd b.stands
says_one all Nothing line (Item i) _ a b = absurd a.stands
says_one all Nothing line (Count n) _ a b = absurd a.stands
says_one all Nothing line (Row x) _ a b = absurd a.stands
says_one all Nothing line (Place f) _ a b = absurd a.stands
says_one all (Text items) line Head _ a b = absurd a.stands
says_one all (Text items) line (Item i) Head a b = absurd b.stands
says_one all (Text items) line (Item i) (Item j) a b = ap Item (item_same line i j a.fields b.fields a.spelled b.spelled)
says_one all (Text items) line (Item i) (Count m) a b = absurd (not_both line i m a.fields a.spelled b.spelled)
says_one all (Text items) line (Item i) (Row y) a b = absurd b.stands
says_one all (Text items) line (Item i) (Place g) a b = absurd b.stands
says_one all (Text items) line (Count n) Head a b = absurd b.stands
says_one all (Text items) line (Count n) (Item j) a b = absurd (not_both line j n b.fields b.spelled a.spelled)
says_one all (Text items) line (Count n) (Count m) a b = ap Count (count_same line n m a.fields b.fields a.spelled b.spelled)
says_one all (Text items) line (Count n) (Row y) a b = absurd b.stands
says_one all (Text items) line (Count n) (Place g) a b = absurd b.stands
says_one all (Text items) line (Row x) _ a b = absurd a.stands
says_one all (Text items) line (Place f) _ a b = absurd a.stands
says_one all (Data items c bytes fixes) line Head _ a b = absurd a.stands
says_one all (Data items c bytes fixes) line (Item i) _ a b = absurd a.stands
says_one all (Data items c bytes fixes) line (Count n) _ a b = absurd a.stands
says_one all (Data items c bytes fixes) line (Row x) Head a b = absurd b.stands
says_one all (Data items c bytes fixes) line (Row x) (Item j) a b = absurd b.stands
says_one all (Data items c bytes fixes) line (Row x) (Count m) a b = absurd b.stands
says_one all (Data items c bytes fixes) line (Row x) (Row y) a b = ap Row (row_same line x y a.fields b.fields a.spelled b.spelled)
says_one all (Data items c bytes fixes) line (Row x) (Place g) a b = absurd (open_or_full (length bytes) c a.stands.0 b.stands.0)
says_one all (Data items c bytes fixes) line (Place f) Head a b = absurd b.stands
says_one all (Data items c bytes fixes) line (Place f) (Item j) a b = absurd b.stands
says_one all (Data items c bytes fixes) line (Place f) (Count m) a b = absurd b.stands
says_one all (Data items c bytes fixes) line (Place f) (Row y) a b = absurd (open_or_full (length bytes) c b.stands.0 a.stands.0)
says_one all (Data items c bytes fixes) line (Place f) (Place g) a b = ap Place (place_same line f g a.fields b.fields a.spelled b.spelled)

pub wrong_or_well : (all : List (List ℕ)) (st : TextSoFar) (k : ℕ) (rest : List (List ℕ)) (e : Bool) (n : ℕ) (final : TextSoFar) → WrongFrom all st k rest e n → WellFrom all st rest e final → ⊥
wrong_or_well all st k [] e n final wrong well = wrong.0 (well.0, well.1)
wrong_or_well all st k (line ∷ rest) e n final (inl none) well = none.0 well.0 well.1
wrong_or_well all st k (line ∷ rest) e n final (inr some) well =
    let same = says_one all st line some.0 well.0 some.1 well.1 in
    wrong_or_well all (with_form st well.0) (k + 1) rest e n final (subst (λ f. WrongFrom all (with_form st f) (k + 1) rest e n) same some.2) well.2

pub well_one : (all : List (List ℕ)) (st : TextSoFar) (rest : List (List ℕ)) (e : Bool) (a b : TextSoFar) → WellFrom all st rest e a → WellFrom all st rest e b → a ≡ b
well_one all st [] e a b x y = x.2 ∙ sym y.2
well_one all st (line ∷ rest) e a b x y =
    let same = says_one all st line x.0 y.0 x.1 y.1 in
    well_one all (with_form st y.0) rest e a b (subst (λ f. WellFrom all (with_form st f) rest e a) same x.2) y.2
