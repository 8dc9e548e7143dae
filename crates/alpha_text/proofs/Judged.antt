-- What may stand where, by what a line was read as.
use Rattle.std.proofs.Common.{◌≡◌, ℕ, ◌+◌, ◌-◌, ◌<◌, ◌≤◌, Bool, true, false, List, [], ◌++◌, Option, Some, None, length, take, drop, min, refl, sym, ap, ◌∙◌, subst, arith}
use Rattle.std.proofs.lemmas.Bool.Decides.{nat_tests}
use Rattle.std.specs.Prelude.{IsTrue, nat_lt, position, if◌then◌else◌}
use Rattle.std.specs.List.{list_any, position_or_len}
use Rattle.alpha_items.specs.declared.item.AsmItem.{AsmItem}
use Rattle.alpha_items.specs.declared.item.Fix.{Fix}
use Rattle.alpha_items.specs.Items.{names_label, gives_word}
use Rattle.alpha_items.specs.Assembly.{label_index}
use Rattle.alpha_text.specs.declared.items.LineMeaning.{LineMeaning}
use Rattle.alpha_text.specs.declared.items.LineMeaning.TheVariants as said
use Rattle.alpha_text.specs.Wrong.{Text, Data, Form, Head, Item, Count, Row, Place, HasEntry, Says}
use Rattle.alpha_text.specs.model.LineMeaning.{IsSpelled, StandsBehind}
use Rattle.alpha_text.specs.model.Judged.{HasRow, HasFix}
use Rattle.std.proofs.lemmas.List.{take_all, length-append, length-drop}
use Rattle.std.proofs.Math.ListN.{drop_of_length-le}

pub no_place : (all : List (List ℕ)) (items : List AsmItem) (n : ℕ) (bytes : List ℕ) (fixes : List Fix) (line : List ℕ) → length bytes ≡ n → ((fix : Fix) → ¬ (HasFix line fixes n fix)) → (form : Form) → ¬ (Says all (Data items n bytes fixes) line form)
no_place all items n bytes fixes line full none Head says = says.stands
no_place all items n bytes fixes line full none (Item i) says = says.stands
no_place all items n bytes fixes line full none (Count m) says = says.stands
no_place all items n bytes fixes line full none (Row row) says = let h = says.stands.0 in omega (arith, h)
no_place all items n bytes fixes line full none (Place fix) says = none fix (says.fields, says.spelled, says.stands.1, says.stands.2)

pub no_row : (all : List (List ℕ)) (items : List AsmItem) (n : ℕ) (bytes : List ℕ) (fixes : List Fix) (line : List ℕ) → length bytes < n → ((row : List ℕ) → ¬ (HasRow line (length bytes) n row)) → (form : Form) → ¬ (Says all (Data items n bytes fixes) line form)
no_row all items n bytes fixes line room none Head says = says.stands
no_row all items n bytes fixes line room none (Item i) says = says.stands
no_row all items n bytes fixes line room none (Count m) says = says.stands
no_row all items n bytes fixes line room none (Row row) says = none row (says.fields, says.spelled, says.stands.1)
no_row all items n bytes fixes line room none (Place fix) says = let h = says.stands.0 in omega (arith, h)

pub no_said : (all : List (List ℕ)) (items : List AsmItem) (line : List ℕ) → ((t : LineMeaning) → ¬ (IsSpelled line t)) → (form : Form) → ¬ (Says all (Text items) line form)
no_said all items line none Head says = says.stands
no_said all items line none (Item i) says = none (said.Item i) (says.fields, says.spelled)
no_said all items line none (Count n) says = none (said.Count n) (says.fields, says.spelled)
no_said all items line none (Row row) says = says.stands
no_said all items line none (Place fix) says = says.stands

pub not_said : (all : List (List ℕ)) (items : List AsmItem) (line : List ℕ) (s : LineMeaning) → ((t : LineMeaning) → IsSpelled line t → s ≡ t) → (StandsBehind all items s → ⊥) → (form : Form) → ¬ (Says all (Text items) line form)
not_said all items line s only none Head says = says.stands
not_said all items line s only none (Item i) says = none (subst (StandsBehind all items) (sym (only (said.Item i) (says.fields, says.spelled))) says.stands)
not_said all items line s only none (Count n) says = none (subst (StandsBehind all items) (sym (only (said.Count n) (says.fields, says.spelled))) says.stands)
not_said all items line s only none (Row row) says = says.stands
not_said all items line s only none (Place fix) says = says.stands

pub entry_some : (items : List AsmItem) (at : ℕ) (r : Bool) → Some at ≡ position (names_label 0) items → r ≡ list_any gives_word (take (length items - at) (drop at items)) → (IsTrue r → HasEntry items) × (HasEntry items → IsTrue r)
entry_some items at r found word = (λ t. sym whole ∙ t, λ t. whole ∙ t)
  where
    chosen : (t : Bool) (x : ℕ) → Some at ≡ (if t then Some x else None) → at ≡ x
    chosen true x e = cc
    chosen false x e = absurd (cc)

    place : at ≡ label_index items 0
    place = chosen (nat_lt (position_or_len (names_label 0) items) (length items)) (position_or_len (names_label 0) items) found

    rest : take (length items - at) (drop at items) ≡ drop at items
    rest = take_all (length items - at) (drop at items) (omega (arith, length-drop at items))

    whole : r ≡ list_any gives_word (drop (label_index items 0) items)
    whole = word ∙ (ap (list_any gives_word) rest ∙ ap (λ k. list_any gives_word (drop k items)) place)

pub entry_none : (items : List AsmItem) → None ≡ position (names_label 0) items → (IsTrue false → HasEntry items) × (HasEntry items → IsTrue false)
entry_none items found = (λ t. absurd (cc), λ t. sym nothing ∙ t)
  where
    chosen : (t : Bool) (x : ℕ) → ◌≡◌ {A = Option ℕ} None (if t then Some x else None) → t ≡ false
    chosen true x e = absurd (cc)
    chosen false x e = refl

    past : nat_lt (position_or_len (names_label 0) items) (length items) ≡ false
    past = chosen (nat_lt (position_or_len (names_label 0) items) (length items)) (position_or_len (names_label 0) items) found

    end : length items ≤ position_or_len (names_label 0) items
    end = grind (arith, nat_tests, past)

    nothing : list_any gives_word (drop (label_index items 0) items) ≡ false
    nothing = ap (list_any gives_word) (drop_of_length-le items end)

pub row_says : (all : List (List ℕ)) (items : List AsmItem) (n : ℕ) (bytes line row : List ℕ) (done : ℕ) → done ≡ length bytes → length bytes < n → HasRow line done n row → Says all (Data items n bytes []) line (Row row)
row_says all items n bytes line row done same room has =
    let due : length row ≡ min 32 (n - length bytes) = has.2 ∙ ap (λ k. min 32 (n - k)) same in
    record { fields = has.0; spelled = has.1; stands = (room, due) }

pub row_within : (n : ℕ) (bytes line row new : List ℕ) (done : ℕ) → done ≡ length bytes → length bytes < n → HasRow line done n row → new ≡ bytes ++ row → length new ≤ n
row_within n bytes line row new done same room has e =
    let due : length row ≡ min 32 (n - done) = has.2 in
    let total : length new ≡ length bytes + length row = ap length e ∙ length-append bytes row in
    omega (arith, due, total, same, room)
