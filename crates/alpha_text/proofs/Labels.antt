-- A set of labels, with one label more.
use Rattle.std.proofs.Common.{◌≡◌, ℕ, ◌^◌, ◌<◌, ◌||◌, Option, Some, Bool, true, false, not, eqb, List, [], ◌∷◌, ◌++◌, refl, sym, ap, ◌∙◌, subst, Result, Ok, Err}
use Rattle.std.specs.Prelude.{OnOk}
use Rattle.std.specs.List.{list_any}
use Rattle.std.specs.HashSet.{HashSet, PutsKey}
use Rattle.std.proofs.lemmas.Bool.{eqb-true, eq-eqb}
use Rattle.std.proofs.lemmas.Slice.Eq.{bytes_eq-Decides}
use Rattle.std.proofs.lemmas.List.Elements.{filter_map-append}
use Rattle.alpha_items.specs.declared.item.AsmItem.{AsmItem}
use Rattle.alpha_items.specs.declared.item.AsmItem.TheVariants.{Label, Name, Plain, Branch, TextAddress, DataAddress}
use Rattle.alpha_items.specs.Items.{label_named}
use Rattle.alpha_items.specs.Assembly.{labels}
use Rattle.alpha_lines.specs.Lines.{HasLine, item_line}
use Rattle.alpha_lines.specs.model.Readers.{item_of}
use Rattle.alpha_lines.proofs.Items.{item_complete}
use Rattle.std.proofs.lemmas.List.Folds.{list_any-append}
use Rattle.std.proofs.lemmas.List.Sorted.{list_any-IsPermutation}
use Rattle.alpha_text.specs.Wrong.{is_among, is_label_named}
use Rattle.alpha_text.specs.model.Labels.{has_label, IsIndex, is_label}

or-false : (a : Bool) → (a || false) ≡ a
or-false true = refl
or-false false = refl

or-swapped : (a b : Bool) → (a || b) ≡ (b || a)
or-swapped true true = refl
or-swapped true false = refl
or-swapped false true = refl
or-swapped false false = refl

or-known : (a b : Bool) → (b ≡ true → a ≡ true) → a ≡ (a || b)
or-known true b f = refl
or-known false true f = f refl
or-known false false f = refl

there : (b : Bool) → false ≡ not b → b ≡ true
there true e = refl
there false e = absurd (cc)

pub label_added : {S : Type 0} (s n : HashSet ℕ S) (label : ℕ) (added : Bool) → added ≡ not (has_label s label) → PutsKey s n label added → (l : ℕ) → has_label n l ≡ (has_label s l || eqb l label)
label_added s n label true was puts l = sym (list_any-IsPermutation (λ k. eqb l k) (label ∷ s.keys) n.keys puts) ∙ or-swapped (eqb l label) (list_any (λ k. eqb l k) s.keys)
label_added s n label false was puts l = ap (λ ks. list_any (λ k. eqb l k) ks) puts ∙ or-known (has_label s l) (eqb l label) (λ e. subst (λ m. has_label s m ≡ true) (sym (eqb-true l label e)) (there (has_label s label) was))

-- the labels of items, with one item more

pub named_label : {S : Type 0} (s n : HashSet ℕ S) (label : ℕ) → ((l : ℕ) → has_label n l ≡ (has_label s l || eqb l label)) → (l : ℕ) → has_label n l ≡ (has_label s l || is_among (labels (Label label ∷ [])) l)
named_label s n label more l = more l ∙ ap (λ b. has_label s l || b) (sym (or-false (eqb l label)))

pub named_none : {S : Type 0} (s : HashSet ℕ S) (item : AsmItem) → ((l : ℕ) → item ≡ Label l → ⊥) → (l : ℕ) → has_label s l ≡ (has_label s l || is_among (labels (item ∷ [])) l)
named_none s (Label m) other l = absurd (other m refl)
named_none s (Name name) other l = sym (or-false (has_label s l))
named_none s (Plain insn) other l = sym (or-false (has_label s l))
named_none s (Branch op ra m) other l = sym (or-false (has_label s l))
named_none s (TextAddress ra m) other l = sym (or-false (has_label s l))
named_none s (DataAddress ra offset) other l = sym (or-false (has_label s l))

pub index_named : {S : Type 0} (s n : HashSet ℕ S) (item : AsmItem) (items : List AsmItem) → ((l : ℕ) → has_label n l ≡ (has_label s l || is_among (labels (item ∷ [])) l)) → IsIndex s (labels items) → IsIndex n (labels (items ++ item ∷ []))
index_named s n item items more is l =
    more l ∙ (ap (λ b. b || is_among (labels (item ∷ [])) l) (is l) ∙ sym (ap (λ t. is_among t l) (filter_map-append label_named items (item ∷ [])) ∙ list_any-append (λ m. eqb l m) (labels items) (labels (item ∷ []))))

-- the labels that lines name, with one line more

or_grouped : (a b d : Bool) → (a || (b || d)) ≡ ((a || b) || d)
or_grouped true b d = refl
or_grouped false b d = refl

pub names_more : {S : Type 0} (s n : HashSet ℕ S) (whole : Bool) (l : ℕ) (line : List ℕ) (lines rest : List (List ℕ)) → lines ≡ line ∷ rest → has_label n l ≡ (has_label s l || is_label l line) → whole ≡ (has_label s l || is_label_named lines l) → whole ≡ (has_label n l || is_label_named rest l)
names_more s n whole l line lines rest same more e =
    e ∙ (ap (λ t. has_label s l || is_label_named t l) same ∙ (or_grouped (has_label s l) (is_label l line) (is_label_named rest l) ∙ ap (λ b. b || is_label_named rest l) (sym more)))

-- whether a line names a label, by what it was read as

same_tests : (a b : Bool) → (a ≡ true → b ≡ true) → (b ≡ true → a ≡ true) → a ≡ b
same_tests true b f g = sym (f refl)
same_tests false true f g = g refl
same_tests false false f g = refl

pub label_line : (line : List ℕ) (label l : ℕ) → label < 2 ^ 32 → l < 2 ^ 32 → line ≡ item_line (Label label) → eqb l label ≡ is_label l line
label_line line label l small low e = same_tests (eqb l label) (is_label l line) there back
  where
    there : eqb l label ≡ true → is_label l line ≡ true
    there t = (bytes_eq-Decides line (item_line (Label l))).1 (e ∙ ap (λ k. item_line (Label k)) (sym (eqb-true l label t)))

    back : is_label l line ≡ true → eqb l label ≡ true
    back t =
        let text : item_line (Label label) ≡ item_line (Label l) = sym e ∙ (bytes_eq-Decides line (item_line (Label l))).0 t in
        let same : ◌≡◌ {A = Option AsmItem} (Some (Label label)) (Some (Label l)) = sym (item_complete (Label label) small) ∙ (ap item_of text ∙ item_complete (Label l) low) in
        let equal : l ≡ label = cc in
        eq-eqb l label equal

pub no_label_line : (line : List ℕ) (o : Option AsmItem) (l : ℕ) → l < 2 ^ 32 → ((i : AsmItem) → HasLine i → line ≡ item_line i → o ≡ Some i) → ((k : ℕ) → o ≡ Some (Label k) → ⊥) → is_label l line ≡ false
no_label_line line o l low only none = by (is_label l line) refl
  where
    by : (t : Bool) → is_label l line ≡ t → is_label l line ≡ false
    by false e = e
    by true e = absurd (none l (only (Label l) low ((bytes_eq-Decides line (item_line (Label l))).0 e)))

pub or_nothing : (a b : Bool) → b ≡ false → a ≡ (a || b)
or_nothing true b e = refl
or_nothing false b e = sym e

no_label : (line : List ℕ) (i : AsmItem) (l : ℕ) → l < 2 ^ 32 → HasLine i → line ≡ item_line i → (i ≡ Label l → ⊥) → is_label l line ≡ false
no_label line i l low has e other = by (is_label l line) refl
  where
    by : (t : Bool) → is_label l line ≡ t → is_label l line ≡ false
    by false f = f
    by true f =
        let text : item_line i ≡ item_line (Label l) = sym e ∙ (bytes_eq-Decides line (item_line (Label l))).0 f in
        let same : ◌≡◌ {A = Option AsmItem} (Some i) (Some (Label l)) = sym (item_complete i has) ∙ (ap item_of text ∙ item_complete (Label l) low) in
        let equal : i ≡ Label l = cc in
        absurd (other equal)

label_told : (line : List ℕ) (i : AsmItem) (l : ℕ) → l < 2 ^ 32 → HasLine i → line ≡ item_line i → is_among (labels (i ∷ [])) l ≡ is_label l line
label_told line (Label m) l low has e = or-false (eqb l m) ∙ label_line line m l has low e
label_told line (Name name) l low has e = sym (no_label line (Name name) l low has e (λ same. cc))
label_told line (Plain insn) l low has e = sym (no_label line (Plain insn) l low has e (λ same. cc))
label_told line (Branch op ra m) l low has e = sym (no_label line (Branch op ra m) l low has e (λ same. cc))
label_told line (TextAddress ra m) l low has e = sym (no_label line (TextAddress ra m) l low has e (λ same. cc))
label_told line (DataAddress ra offset) l low has e = sym (no_label line (DataAddress ra offset) l low has e (λ same. cc))

pub line_named : {S E : Type 0} (s n : HashSet ℕ S) (line : List ℕ) (i : AsmItem) (r : Result (Unit {0}) E) → HasLine i → line ≡ item_line i → OnOk r ((l : ℕ) → has_label n l ≡ (has_label s l || is_among (labels (i ∷ [])) l)) → OnOk r ((l : ℕ) → l < 2 ^ 32 → has_label n l ≡ (has_label s l || is_label l line))
line_named s n line i (Ok u) has e more = λ l low. more l ∙ ap (λ b. has_label s l || b) (label_told line i l low has e)
line_named s n line i (Err f) has e more = tt
