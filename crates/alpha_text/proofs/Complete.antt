-- The text of a whole assembly has no wrong line.
use Rattle.std.proofs.Common.{◌≡◌, ◌≢◌, ℕ, suc, ◌+◌, ◌-◌, ◌^◌, ◌<◌, ◌≤◌, ◌||◌, Bool, true, false, eqb, List, [], ◌∷◌, ◌++◌, Option, Some, length, get_or, take, drop, map, min, refl, sym, ap, ◌∙◌, subst, inl, inr, ◌⊎◌, arith, append_assoc, append-nil}
use Rattle.std.specs.Prelude.{IsTrue, not, IfSome, bytes_eq, slice_get}
use Rattle.std.specs.List.{All, AllPairs, AllAdjacentBelow, Contains, list_any}
use Rattle.std.proofs.lemmas.Bool.{eqb-true, eq-eqb}
use Rattle.std.proofs.lemmas.List.{length-append, length-take, take-append-drop, get_or_append_left, get_or-append-add}
use Rattle.std.proofs.lemmas.Option.{slice_get-get_or}
use Rattle.std.proofs.lemmas.Slice.Eq.{bytes_eq-Decides}
use Rattle.std.proofs.lemmas.List.Folds.{list_any-append}
use Rattle.std.proofs.lemmas.List.Elements.{filter_map-append, All-take, All-drop}
use Rattle.std.proofs.lemmas.Map.Views.{Contains-from_any}
use Rattle.alpha_items.specs.declared.item.AsmItem.{AsmItem}
use Rattle.alpha_items.specs.declared.item.AsmItem.TheVariants.{Label, Name, Plain, Branch, TextAddress, DataAddress}
use Rattle.alpha_items.specs.declared.item.Fix.{Fix}
use Rattle.alpha_items.specs.Items.{label_named, label_used, IsItem}
use Rattle.alpha_items.specs.Assembly.{Assembly, labels, IsFix, IsWhole}
use Rattle.alpha_lines.specs.Lines.{HasLine, head_line, item_line, data_line, fix_line}
use Rattle.alpha_lines.specs.model.Data.{data_of}
use Rattle.alpha_lines.proofs.DataLines.{data_complete}
use Rattle.alpha_text.specs.Texts.{hex_rows, hex_lines, asm_lines, HasText}
use Rattle.alpha_text.specs.Wrong.{TextSoFar, Nothing, Text, Data, Head, Item, Count, Row, Place, InFields, is_label_named, is_among, IsWithinData, FitsBehind, IsBehind, WellFrom}
use Rattle.alpha_text.proofs.Whole.{find_count}

-- what is behind the lines so far, line by line

well_items : (all : List (List ℕ)) (done todo : List AsmItem) (rest : List (List ℕ)) (e : Bool) (final : TextSoFar) → ((front : List AsmItem) (i : AsmItem) (back : List AsmItem) → done ++ todo ≡ front ++ i ∷ back → HasLine i × FitsBehind all front i)
    → WellFrom all (Text (done ++ todo)) rest e final → WellFrom all (Text done) (map item_line todo ++ rest) e final
well_items all done [] rest e final fits well = subst (λ t. WellFrom all (Text t) rest e final) (append-nil done) well
well_items all done (i ∷ todo) rest e final fits well =
    let here = fits done i todo refl in
    let regroup : (done ++ i ∷ []) ++ todo ≡ done ++ i ∷ todo = append_assoc done (i ∷ []) todo in (
      Item i,
      record { fields = here.0; spelled = refl; stands = here.1 },
      well_items all (done ++ i ∷ []) todo rest e final (λ front j back s. fits front j back (sym regroup ∙ s)) (subst (λ t. WellFrom all (Text t) rest e final) (sym regroup) well),
    )

well_rows : (all : List (List ℕ)) (items : List AsmItem) (n k : ℕ) (done todo : List ℕ) (rest : List (List ℕ)) (e : Bool) (final : TextSoFar) → length done + length todo ≡ n → length todo ≤ k → All (λ b. b < 256) todo
    → WellFrom all (Data items n (done ++ todo) []) rest e final → WellFrom all (Data items n done []) (hex_rows k todo ++ rest) e final
well_rows all items n Prim.Native.Nat.zero done [] rest e final total low small well = subst (λ t. WellFrom all (Data items n t []) rest e final) (append-nil done) well
well_rows all items n Prim.Native.Nat.zero done (b ∷ s) rest e final total low small well = absurd (omega arith)
well_rows all items n (suc k) done [] rest e final total low small well = subst (λ t. WellFrom all (Data items n t []) rest e final) (append-nil done) well
well_rows all items n (suc k) done (b ∷ s) rest e final total low small well =
    let row : List ℕ = take 32 (b ∷ s) in
    let behind : List ℕ = drop 32 (b ∷ s) in
    let whole : row ++ behind ≡ b ∷ s = take-append-drop 32 (b ∷ s) in
    let count : length row ≡ min 32 (length (b ∷ s)) = length-take 32 (b ∷ s) in
    let sum : length row + length behind ≡ length (b ∷ s) = sym (length-append row behind) ∙ ap length whole in
    let room : length done < n = omega arith in
    let left : n - length done ≡ length (b ∷ s) = omega arith in
    let more : length (done ++ row) ≡ length done + length row = length-append done row in
    let regroup : (done ++ row) ++ behind ≡ done ++ b ∷ s = append_assoc done row behind ∙ ap (λ t. done ++ t) whole in (
      Row row,
      record { fields = All-take (λ x. x < 256) 32 (b ∷ s) small; spelled = refl; stands = (room, count ∙ ap (min 32) (sym left)) },
      well_rows all items n k (done ++ row) behind rest e final (omega arith) (omega arith) (All-drop (λ x. x < 256) 32 (b ∷ s) small) (subst (λ t. WellFrom all (Data items n t []) rest e final) (sym regroup) well),
    )

well_places : (all : List (List ℕ)) (items : List AsmItem) (n : ℕ) (bytes : List ℕ) (done todo : List Fix) (e : Bool) (final : TextSoFar) → length bytes ≡ n → ((front : List Fix) (fix : Fix) (back : List Fix) → done ++ todo ≡ front ++ fix ∷ back → InFields (Place fix) × IsFix n fix × IsBehind front fix)
    → WellFrom all (Data items n bytes (done ++ todo)) [] e final → WellFrom all (Data items n bytes done) (map fix_line todo) e final
well_places all items n bytes done [] e final full fits well = subst (λ t. WellFrom all (Data items n bytes t) [] e final) (append-nil done) well
well_places all items n bytes done (fix ∷ todo) e final full fits well =
    let here = fits done fix todo refl in
    let regroup : (done ++ fix ∷ []) ++ todo ≡ done ++ fix ∷ todo = append_assoc done (fix ∷ []) todo in (
      Place fix,
      record { fields = here.0; spelled = refl; stands = (full, here.1, here.2) },
      well_places all items n bytes (done ++ fix ∷ []) todo e final full (λ front g back s. fits front g back (sym regroup ∙ s)) (subst (λ t. WellFrom all (Data items n bytes t) [] e final) (sym regroup) well),
    )

-- what an element of a list stands behind

all_at : {X : Type 0} (P : X → Type 0) (front : List X) (x : X) (back : List X) → All P (front ++ x ∷ back) → P x
all_at P front x back all =
    let total : length (front ++ x ∷ back) ≡ length front + length (x ∷ back) = length-append front (x ∷ back) in
    let here : get_or (front ++ x ∷ back) (length front + 0) x ≡ x = get_or-append-add front (x ∷ back) 0 x in
    subst P here (all (length front + 0) x (omega arith))

new_label : (front : List AsmItem) (l : ℕ) (back : List AsmItem) → AllPairs (λ x y. x ≢ y) (labels (front ++ Label l ∷ back)) → IsTrue (not (is_among (labels front) l))
new_label front l back once = by (is_among (labels front) l) refl
  where
    whole : labels (front ++ Label l ∷ back) ≡ labels front ++ l ∷ labels back
    whole = filter_map-append label_named front (Label l ∷ back)

    apart : AllPairs (λ x y. x ≢ y) (labels front ++ l ∷ labels back)
    apart = subst (λ t. AllPairs (λ x y. x ≢ y) t) whole once

    clash : Contains (labels front) l → ⊥
    clash found =
        let total : length (labels front ++ l ∷ labels back) ≡ length (labels front) + length (l ∷ labels back) = length-append (labels front) (l ∷ labels back) in
        let first : get_or (labels front ++ l ∷ labels back) found.0 l ≡ l = get_or_append_left (labels front) (l ∷ labels back) l found.0 found.1 ∙ found.2 in
        let second : get_or (labels front ++ l ∷ labels back) (length (labels front) + 0) l ≡ l = get_or-append-add (labels front) (l ∷ labels back) 0 l in
        apart found.0 (length (labels front) + 0) l (omega (arith, found.1)) (omega arith) (first ∙ sym second)

    by : (t : Bool) → is_among (labels front) l ≡ t → IsTrue (not t)
    by false e = refl
    by true e = absurd (clash (Contains-from_any eqb-true l (labels front) e))

-- labels that are named

among_of : (labels : List ℕ) (l k : ℕ) → k < length labels → get_or labels k l ≡ l → is_among labels l ≡ true
among_of [] l k within e = absurd (omega arith)
among_of (m ∷ labels) l Prim.Native.Nat.zero within e = left (eqb l m) (is_among labels l) (eq-eqb l m (sym e))
  where
    left : (a b : Bool) → a ≡ true → (a || b) ≡ true
    left true b h = refl
    left false b h = absurd (cc)
among_of (m ∷ labels) l (suc k) within e = right (eqb l m) (is_among labels l) (among_of labels l k (omega arith) e)
  where
    right : (a b : Bool) → b ≡ true → (a || b) ≡ true
    right true b h = refl
    right false b h = h

abbrev is_label : ℕ → List ℕ → Bool
is_label l line = bytes_eq line (item_line (Label l))

or_true : (a b : Bool) → (a || b) ≡ true → (a ≡ true) ⊎ (b ≡ true)
or_true true b e = inl refl
or_true false b e = inr e

or_left : (a b : Bool) → a ≡ true → (a || b) ≡ true
or_left true b e = refl
or_left false b e = absurd (cc)

or_right : (a b : Bool) → b ≡ true → (a || b) ≡ true
or_right true b e = refl
or_right false b e = e

listed : (items : List AsmItem) (l : ℕ) → is_among (labels items) l ≡ true → list_any (is_label l) (map item_line items) ≡ true
listed [] l e = absurd (cc)
listed (Label m ∷ items) l e = elim (or_true (eqb l m) (is_among (labels items) l) e) [
  | inl here ↦ or_left (is_label l (item_line (Label m))) (list_any (is_label l) (map item_line items)) (same m l (sym (eqb-true l m here)))
  | inr later ↦ or_right (is_label l (item_line (Label m))) (list_any (is_label l) (map item_line items)) (listed items l later)
]
  where
    same : (m l : ℕ) → m ≡ l → is_label l (item_line (Label m)) ≡ true
    same m l e = (bytes_eq-Decides (item_line (Label m)) (item_line (Label l))).1 (ap (λ k. item_line (Label k)) e)
listed (Name name ∷ items) l e = or_right (is_label l (item_line (Name name))) (list_any (is_label l) (map item_line items)) (listed items l e)
listed (Plain insn ∷ items) l e = or_right (is_label l (item_line (Plain insn))) (list_any (is_label l) (map item_line items)) (listed items l e)
listed (Branch op ra m ∷ items) l e = or_right (is_label l (item_line (Branch op ra m))) (list_any (is_label l) (map item_line items)) (listed items l e)
listed (TextAddress ra m ∷ items) l e = or_right (is_label l (item_line (TextAddress ra m))) (list_any (is_label l) (map item_line items)) (listed items l e)
listed (DataAddress ra o ∷ items) l e = or_right (is_label l (item_line (DataAddress ra o))) (list_any (is_label l) (map item_line items)) (listed items l e)

named_by : (a : Assembly) (l : ℕ) → Contains (labels a.items) l → is_label_named (asm_lines a) l ≡ true
named_by a l found =
    let here : list_any (is_label l) (map item_line a.items) ≡ true = listed a.items l (among_of (labels a.items) l found.0 found.1 found.2) in
    or_right (is_label l head_line) (list_any (is_label l) (map item_line a.items ++ (data_line (length a.bytes) ∷ (hex_lines a.bytes ++ map fix_line a.fixes))))
    (list_any-append (is_label l) (map item_line a.items) (data_line (length a.bytes) ∷ (hex_lines a.bytes ++ map fix_line a.fixes)) ∙ or_left (list_any (is_label l) (map item_line a.items)) (list_any (is_label l) (data_line (length a.bytes) ∷ (hex_lines a.bytes ++ map fix_line a.fixes))) here)

within_by : (a : Assembly) (offset : ℕ) → All HasLine a.items → length a.bytes < 2 ^ 64 → offset ≤ length a.bytes → IsWithinData (asm_lines a) offset
within_by a offset fields low within n small found =
    let same : ◌≡◌ {A = Option (List ℕ)} (Some (data_line n)) (Some (data_line (length a.bytes))) = sym found ∙ find_count a.items (length a.bytes) a.bytes a.fixes fields in
    let line : data_line n ≡ data_line (length a.bytes) = cc in
    let count : ◌≡◌ {A = Option ℕ} (Some n) (Some (length a.bytes)) = sym (data_complete n small) ∙ (ap data_of line ∙ data_complete (length a.bytes) low) in
    let value : n ≡ length a.bytes = cc in
    omega arith

-- each item and fix of a whole assembly fits where it stands

fits_at : (a : Assembly) (front : List AsmItem) (i : AsmItem) (back : List AsmItem) → IsWhole a → All HasLine a.items → a.items ≡ front ++ i ∷ back → FitsBehind (asm_lines a) front i
fits_at a front (Label l) back whole fields e = new_label front l back (subst (λ t. AllPairs (λ x y. x ≢ y) (labels t)) e whole.labels_once)
fits_at a front (Name name) back whole fields e = tt
fits_at a front (Plain insn) back whole fields e = tt
fits_at a front (Branch op ra l) back whole fields e = named_by a l (all_at (λ i. IfSome (label_used i) (λ l. Contains (labels a.items) l)) front (Branch op ra l) back (subst (All (λ i. IfSome (label_used i) (λ l. Contains (labels a.items) l))) e whole.labels_used))
fits_at a front (TextAddress ra l) back whole fields e = named_by a l (all_at (λ i. IfSome (label_used i) (λ l. Contains (labels a.items) l)) front (TextAddress ra l) back (subst (All (λ i. IfSome (label_used i) (λ l. Contains (labels a.items) l))) e whole.labels_used))
fits_at a front (DataAddress ra offset) back whole fields e =
    let is = all_at (IsItem (length a.bytes)) front (DataAddress ra offset) back (subst (All (IsItem (length a.bytes))) e whole.items) in
    within_by a offset fields (omega (arith, whole.bytes)) is.1

behind_at : (front : List Fix) (fix : Fix) (back : List Fix) → AllAdjacentBelow (λ f g. f.at + 8 ≤ g.at) (front ++ fix ∷ back) (length (front ++ fix ∷ back)) → IsBehind front fix
behind_at [] fix back apart = tt
behind_at (f ∷ front) fix back apart =
    let total : length ((f ∷ front) ++ fix ∷ back) ≡ length (f ∷ front) + length (fix ∷ back) = length-append (f ∷ front) (fix ∷ back) in
    let k : ℕ = length front in
    let found : slice_get (f ∷ front) (length (f ∷ front) - 1) ≡ Some (get_or (f ∷ front) k fix) = ap (slice_get (f ∷ front)) (omega arith) ∙ slice_get-get_or (f ∷ front) k fix (omega arith) in
    let first : get_or ((f ∷ front) ++ fix ∷ back) k fix ≡ get_or (f ∷ front) k fix = get_or_append_left (f ∷ front) (fix ∷ back) fix k (omega arith) in
    let second : get_or ((f ∷ front) ++ fix ∷ back) (length (f ∷ front) + 0) fix ≡ fix = get_or-append-add (f ∷ front) (fix ∷ back) 0 fix in
    let place : length (f ∷ front) + 0 ≡ k + 1 = omega arith in
    let next : get_or ((f ∷ front) ++ fix ∷ back) (k + 1) fix ≡ fix = subst (λ m. get_or ((f ∷ front) ++ fix ∷ back) m fix ≡ fix) place second in
    let far : (get_or ((f ∷ front) ++ fix ∷ back) k fix).at + 8 ≤ (get_or ((f ∷ front) ++ fix ∷ back) (k + 1) fix).at = apart k fix (omega arith) in
    rw found (omega (arith, far, ap (λ (g : Fix). g.at) first, ap (λ (g : Fix). g.at) next))

fix_at : (a : Assembly) (front : List Fix) (fix : Fix) (back : List Fix) → IsWhole a → a.fixes ≡ front ++ fix ∷ back → InFields (Place fix) × IsFix (length a.bytes) fix × IsBehind front fix
fix_at a front fix back whole e =
    let is = all_at (λ f. IsFix (length a.bytes) f) front fix back (subst (All (λ f. IsFix (length a.bytes) f)) e whole.fixes) in
    ((omega (arith, is.0, whole.bytes), omega (arith, is.1, whole.bytes)), is, behind_at front fix back (subst (λ t. AllAdjacentBelow (λ f g. f.at + 8 ≤ g.at) t (length t)) e whole.fixes_apart))

pub whole_well : (a : Assembly) → IsWhole a → HasText a → WellFrom (asm_lines a) Nothing (asm_lines a) true (Data a.items (length a.bytes) a.bytes a.fixes)
unfolding hex_lines
whole_well a whole text =
    let all = asm_lines a in
    let n : ℕ = length a.bytes in
    let final = Data a.items (length a.bytes) a.bytes a.fixes in (
      Head,
      record { fields = tt; spelled = refl; stands = tt },
      well_items all [] a.items (data_line n ∷ (hex_lines a.bytes ++ map fix_line a.fixes)) true final (λ front i back e. (all_at HasLine front i back (subst (All HasLine) e text.0), fits_at a front i back whole text.0 e)) (
        Count n,
        record { fields = omega (arith, whole.bytes); spelled = refl; stands = whole.entry },
        well_rows all a.items n n [] a.bytes (map fix_line a.fixes) true final (omega arith) (omega arith) text.1
            (well_places all a.items n a.bytes [] a.fixes true final refl (λ front fix back e. fix_at a front fix back whole e) (refl, refl, refl)),
      ),
    )
