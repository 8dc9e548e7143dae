-- A text with no wrong line is that of the whole assembly that stands at its end.
use Rattle.std.proofs.Common.{◌≡◌, ◌≢◌, ℕ, suc, ◌+◌, ◌-◌, ◌%◌, ◌^◌, ◌<◌, ◌≤◌, ◌||◌, Bool, true, false, eqb, List, [], ◌∷◌, ◌++◌, Some, length, get_or, map, min, refl, sym, ap, ◌∙◌, subst, inl, inr, ◌⊎◌, arith, append_assoc, append-nil}
use Rattle.std.specs.Prelude.{IsTrue, not, slice_get}
use Rattle.std.specs.List.{All, AllPairs, AllAdjacentBelow}
use Rattle.alpha_items.specs.declared.item.AsmItem.{AsmItem}
use Rattle.alpha_items.specs.declared.item.AsmItem.TheVariants.{Label, Name, Plain, Branch, TextAddress, DataAddress}
use Rattle.alpha_items.specs.declared.item.Fix.{Fix}
use Rattle.alpha_items.specs.Items.{label_named}
use Rattle.alpha_items.specs.Assembly.{labels, IsFix}
use Rattle.alpha_lines.specs.Lines.{HasLine, head_line, item_line, data_line, hex_line, fix_line}
use Rattle.std.proofs.lemmas.Bool.{eq-eqb}
use Rattle.std.proofs.lemmas.Bool.{cases_lt}
use Rattle.std.proofs.lemmas.List.{length-append, get_or_append_left, get_or-append_right}
use Rattle.std.proofs.lemmas.Option.{slice_get-get_or}
use Rattle.std.proofs.lemmas.List.Elements.{All-nil, All-push, All-append, filter_map-append}
use Rattle.std.proofs.lemmas.List.Quantifiers.{all_pairs_push}
use Rattle.alpha_text.specs.Texts.{hex_lines}
use Rattle.alpha_text.specs.Wrong.{TextSoFar, Nothing, Text, Data, Form, Head, Item, Count, Row, Place, is_label_named, is_among, IsWithinData, FitsBehind, HasEntry, IsBehind, with_form, Says, IsComplete, WellFrom}
use Rattle.alpha_text.proofs.Rows.{rows_none, rows_push}

-- an item is known to stand in a text of these lines
abbrev pub IsKnown : List (List ℕ) → AsmItem → Type 0
IsKnown all (Branch op ra l) = IsTrue (is_label_named all l)
IsKnown all (TextAddress ra l) = IsTrue (is_label_named all l)
IsKnown all (DataAddress ra offset) = IsWithinData all offset
IsKnown all _ = Unit {0}

pub record AreItems (all : List (List ℕ)) (items : List AsmItem) : Type 0 where
  pub fields : All HasLine items
  pub known : All (IsKnown all) items
  pub once : AllPairs (λ l m. l ≢ m) (labels items)

pub record AreData (items : List AsmItem) (n : ℕ) (bytes : List ℕ) (fixes : List Fix) : Type 0 where
  pub entry : HasEntry items
  pub small : n < 2 ^ 64
  pub range : All (λ b. b < 256) bytes
  pub within : length bytes ≤ n
  pub rows : (length bytes ≡ n) ⊎ ((length bytes % 32 ≡ 0) × (fixes ≡ []))
  pub placed : All (λ f. IsFix n f) fixes
  pub apart : AllAdjacentBelow (λ f g. f.at + 8 ≤ g.at) fixes (length fixes)

abbrev pub IsSane : List (List ℕ) → TextSoFar → Type 0
IsSane all Nothing = Unit {0}
IsSane all (Text items) = AreItems all items
IsSane all (Data items n bytes fixes) = AreItems all items × AreData items n bytes fixes

-- the lines that say what stands
abbrev pub said_lines : TextSoFar → List (List ℕ)
said_lines Nothing = []
said_lines (Text items) = head_line ∷ map item_line items
said_lines (Data items n bytes fixes) = head_line ∷ (map item_line items ++ data_line n ∷ (hex_lines bytes ++ map fix_line fixes))

map_push : {A B : Type 0} (f : A → B) (xs : List A) (x : A) → map f (xs ++ x ∷ []) ≡ map f xs ++ f x ∷ []
map_push f [] x = refl
map_push f (y ∷ ys) x = ap (λ t. f y ∷ t) (map_push f ys x)

-- one item more

known_item : (all : List (List ℕ)) (items : List AsmItem) (i : AsmItem) → FitsBehind all items i → IsKnown all i
known_item all items (Label l) h = tt
known_item all items (Name name) h = tt
known_item all items (Plain insn) h = tt
known_item all items (Branch op ra l) h = h
known_item all items (TextAddress ra l) h = h
known_item all items (DataAddress ra offset) h = h

not_true : (b : Bool) → IsTrue (not b) → b ≡ true → ⊥
not_true true h e = let clash : ◌≡◌ {A = Bool} false true = h in absurd (cc)
not_true false h e = absurd (cc)

or_parts : (a b : Bool) → IsTrue (not (a || b)) → (a ≡ false) × IsTrue (not b)
or_parts true b h = let clash : ◌≡◌ {A = Bool} false true = h in absurd (cc)
or_parts false b h = (refl, h)

none_among : (labels : List ℕ) (l : ℕ) → IsTrue (not (is_among labels l)) → (k : ℕ) (d : ℕ) → k < length labels → get_or labels k d ≡ l → ⊥
none_among [] l h k d within e = omega arith
none_among (m ∷ labels) l h Prim.Native.Nat.zero d within e =
    let parts = or_parts (eqb l m) (is_among labels l) h in
    let clash : ◌≡◌ {A = Bool} true false = sym (eq-eqb l m (sym e)) ∙ parts.0 in
    absurd (cc)
none_among (m ∷ labels) l h (suc k) d within e = none_among labels l (or_parts (eqb l m) (is_among labels l) h).1 k d (omega arith) e

once_more : (all : List (List ℕ)) (items : List AsmItem) (i : AsmItem) → FitsBehind all items i → AllPairs (λ l m. l ≢ m) (labels items) → AllPairs (λ l m. l ≢ m) (labels (items ++ i ∷ []))
once_more all items i fits once = subst (λ t. AllPairs (λ l m. l ≢ m) t) (sym (filter_map-append label_named items (i ∷ []))) (by i fits)
  where
    same : AllPairs (λ l m. l ≢ m) (labels items ++ [])
    same = subst (λ t. AllPairs (λ l m. l ≢ m) t) (sym (append-nil (labels items))) once

    by : (i : AsmItem) → FitsBehind all items i → AllPairs (λ l m. l ≢ m) (labels items ++ labels (i ∷ []))
    by (Label l) h = all_pairs_push (λ x y. x ≢ y) (labels items) l once (λ k d within e. none_among (labels items) l h k d within e)
    by (Name name) h = same
    by (Plain insn) h = same
    by (Branch op ra l) h = same
    by (TextAddress ra l) h = same
    by (DataAddress ra offset) h = same

items_more : (all : List (List ℕ)) (items : List AsmItem) (i : AsmItem) → AreItems all items → HasLine i → FitsBehind all items i → AreItems all (items ++ i ∷ [])
items_more all items i sane fields fits = record {
  fields = All-push HasLine items i sane.fields fields;
  known = All-push (IsKnown all) items i sane.known (known_item all items i fits);
  once = once_more all items i fits sane.once;
}

-- one row more

-- the last part of the lines grows
row_last : {X : Type 0} (h : X) (m : List X) (d : X) (a r : List X) → h ∷ (m ++ d ∷ ((a ++ r) ++ [])) ≡ (h ∷ (m ++ d ∷ (a ++ []))) ++ r
row_last h m d a r = ap (λ t. h ∷ t) (ap (λ t. m ++ d ∷ t) (append-nil (a ++ r)) ∙ (sym (append_assoc m (d ∷ a) r) ∙ ap (λ t. (m ++ d ∷ t) ++ r) (sym (append-nil a))))

place_last : {X : Type 0} (h : X) (m : List X) (d : X) (a f r : List X) → h ∷ (m ++ d ∷ (a ++ (f ++ r))) ≡ (h ∷ (m ++ d ∷ (a ++ f))) ++ r
place_last h m d a f r = ap (λ t. h ∷ t) (ap (λ t. m ++ d ∷ t) (sym (append_assoc a f r)) ∙ sym (append_assoc m (d ∷ (a ++ f)) r))

row_lines : (items : List AsmItem) (n : ℕ) (bytes row : List ℕ) (fixes : List Fix) → fixes ≡ [] → hex_lines (bytes ++ row) ≡ hex_lines bytes ++ hex_line row ∷ [] → said_lines (Data items n (bytes ++ row) fixes) ≡ said_lines (Data items n bytes fixes) ++ hex_line row ∷ []
row_lines items n bytes row fixes none more = rw (none, more) (row_last head_line (map item_line items) (data_line n) (hex_lines bytes) (hex_line row ∷ []))

row_more : (items : List AsmItem) (n : ℕ) (bytes row : List ℕ) (fixes : List Fix) → AreData items n bytes fixes → All (λ b. b < 256) row → length bytes < n → length row ≡ min 32 (n - length bytes)
    → AreData items n (bytes ++ row) fixes × (said_lines (Data items n (bytes ++ row) fixes) ≡ said_lines (Data items n bytes fixes) ++ hex_line row ∷ [])
row_more items n bytes row fixes sane small room due = by sane.rows
  where
    total : length (bytes ++ row) ≡ length bytes + length row
    total = length-append bytes row

    ends : (length bytes % 32 ≡ 0) → fixes ≡ [] → (length (bytes ++ row) ≡ n) ⊎ ((length (bytes ++ row) % 32 ≡ 0) × (fixes ≡ []))
    ends full none = elim (cases_lt 32 (n - length bytes)) [ inl h ↦ inr (omega (arith, total), none) | inr h ↦ inl (omega (arith, total)) ]

    by : (length bytes ≡ n) ⊎ ((length bytes % 32 ≡ 0) × (fixes ≡ [])) → AreData items n (bytes ++ row) fixes × (said_lines (Data items n (bytes ++ row) fixes) ≡ said_lines (Data items n bytes fixes) ++ hex_line row ∷ [])
    by (inl full) = absurd (omega arith)
    by (inr h) = (
      record {
        entry = sane.entry;
        small = sane.small;
        range = All-append (λ b. b < 256) bytes row sane.range small;
        within = omega (arith, total);
        rows = ends h.0 h.1;
        placed = sane.placed;
        apart = sane.apart;
      },
      row_lines items n bytes row fixes h.1 (rows_push bytes row h.0 (omega arith) (omega arith)),
    )

-- one fix more

apart_more : (fixes : List Fix) (fix : Fix) → AllAdjacentBelow (λ f g. f.at + 8 ≤ g.at) fixes (length fixes) → IsBehind fixes fix → AllAdjacentBelow (λ f g. f.at + 8 ≤ g.at) (fixes ++ fix ∷ []) (length (fixes ++ fix ∷ []))
apart_more fixes fix apart behind k d within = elim (cases_lt (k + 1) (length fixes)) [
  | inl h ↦ rw (get_or_append_left fixes (fix ∷ []) d k (omega arith), get_or_append_left fixes (fix ∷ []) d (k + 1) h) (apart k d h)
  | inr h ↦ last h
]
  where
    total : length (fixes ++ fix ∷ []) ≡ length fixes + 1
    total = length-append fixes (fix ∷ [])

    at_zero : (m : ℕ) → get_or (fix ∷ []) (m - m) d ≡ fix
    at_zero m = let none : m - m ≡ 0 = omega arith in rw none refl

    last : length fixes ≤ k + 1 → (get_or (fixes ++ fix ∷ []) k d).at + 8 ≤ (get_or (fixes ++ fix ∷ []) (k + 1) d).at
    last h =
        let here : k < length fixes = omega (arith, total) in
        let place : length fixes - 1 ≡ k = omega (arith, total) in
        let found : slice_get fixes (length fixes - 1) ≡ Some (get_or fixes k d) = ap (slice_get fixes) place ∙ slice_get-get_or fixes k d here in
        let end : get_or (fixes ++ fix ∷ []) (k + 1) d ≡ fix = get_or-append_right fixes (fix ∷ []) (k + 1) (k + 1) d (omega arith) (omega arith) ∙ at_zero (k + 1) in
        rw (get_or_append_left fixes (fix ∷ []) d k here, end) (rw found at behind)

fix_more : (items : List AsmItem) (n : ℕ) (bytes : List ℕ) (fixes : List Fix) (fix : Fix) → AreData items n bytes fixes → length bytes ≡ n → IsFix n fix → IsBehind fixes fix
    → AreData items n bytes (fixes ++ fix ∷ []) × (said_lines (Data items n bytes (fixes ++ fix ∷ [])) ≡ said_lines (Data items n bytes fixes) ++ fix_line fix ∷ [])
fix_more items n bytes fixes fix sane full is behind = (
  record {
    entry = sane.entry;
    small = sane.small;
    range = sane.range;
    within = sane.within;
    rows = inl full;
    placed = All-push (λ f. IsFix n f) fixes fix sane.placed is;
    apart = apart_more fixes fix sane.apart behind;
  },
  ap (λ t. head_line ∷ (map item_line items ++ data_line n ∷ (hex_lines bytes ++ t))) (map_push fix_line fixes fix) ∙ place_last head_line (map item_line items) (data_line n) (hex_lines bytes) (map fix_line fixes) (fix_line fix ∷ []),
)

none_data : (items : List AsmItem) (n : ℕ) → HasEntry items → n < 2 ^ 64 → AreData items n [] []
none_data items n entry small = record {
  entry = entry;
  small = small;
  range = All-nil (λ b. b < 256);
  within = omega arith;
  rows = inr (refl, refl);
  placed = All-nil (λ f. IsFix n f);
  apart = λ k d h. absurd (omega arith);
}

-- one line more

pub sane_step : (all : List (List ℕ)) (st : TextSoFar) (line : List ℕ) (form : Form) → IsSane all st → Says all st line form → IsSane all (with_form st form) × (said_lines (with_form st form) ≡ said_lines st ++ line ∷ [])
sane_step all Nothing line Head sane says = (record { fields = All-nil HasLine; known = All-nil (IsKnown all); once = λ i j d h k. absurd (omega arith) }, ap (λ l. l ∷ []) (sym says.spelled))
sane_step all (Text items) line (Item i) sane says = (items_more all items i sane says.fields says.stands, rw (says.spelled, map_push item_line items i) refl)
sane_step all (Text items) line (Count n) sane says =
    let none : hex_lines [] ≡ [] = rows_none [] refl in
    ((sane, none_data items n says.stands says.fields), rw (says.spelled, none) refl)
sane_step all (Data items n bytes fixes) line (Row row) sane says =
    let more = row_more items n bytes row fixes sane.1 says.fields says.stands.0 says.stands.1 in
    ((sane.0, more.0), more.1 ∙ ap (λ l. said_lines (Data items n bytes fixes) ++ l ∷ []) (sym says.spelled))
sane_step all (Data items n bytes fixes) line (Place fix) sane says =
    let more = fix_more items n bytes fixes fix sane.1 says.stands.0 says.stands.1 says.stands.2 in
    ((sane.0, more.0), more.1 ∙ ap (λ l. said_lines (Data items n bytes fixes) ++ l ∷ []) (sym says.spelled))
sane_step all Nothing line (Item i) sane says = absurd says.stands
sane_step all Nothing line (Count m) sane says = absurd says.stands
sane_step all Nothing line (Row row) sane says = absurd says.stands
sane_step all Nothing line (Place fix) sane says = absurd says.stands
sane_step all (Text items) line Head sane says = absurd says.stands
sane_step all (Text items) line (Row row) sane says = absurd says.stands
sane_step all (Text items) line (Place fix) sane says = absurd says.stands
sane_step all (Data items n bytes fixes) line Head sane says = absurd says.stands
sane_step all (Data items n bytes fixes) line (Item i) sane says = absurd says.stands
sane_step all (Data items n bytes fixes) line (Count m) sane says = absurd says.stands

pub well_sound : (all : List (List ℕ)) (st : TextSoFar) (rest : List (List ℕ)) (e : Bool) (final : TextSoFar) → IsSane all st → WellFrom all st rest e final → IsSane all final × IsComplete final × (e ≡ true) × (said_lines st ++ rest ≡ said_lines final)
well_sound all st [] e final sane well =
    (subst (IsSane all) (sym well.2) sane, subst IsComplete (sym well.2) well.0, well.1, rw (well.2) (append-nil (said_lines st)))
well_sound all st (line ∷ rest) e final sane well =
    let step = sane_step all st line well.0 sane well.1 in
    let later = well_sound all (with_form st well.0) rest e final step.0 well.2 in
    (later.0, later.1, later.2, sym (append_assoc (said_lines st) (line ∷ []) rest) ∙ (ap (λ t. t ++ rest) (sym step.1) ∙ later.3))
