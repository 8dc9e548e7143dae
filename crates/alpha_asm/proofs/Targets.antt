-- What the table of labels tells of the targets of a text.
use Rattle.std.proofs.Common.{◌≡◌, ℕ, zero, suc, ◌+◌, ◌<◌, Bool, true, false, cond, not, ◌||◌, List, [], ◌∷◌, length, map, get_or, Option, Some, None, refl, ◌∙◌, ap, arith, nat_eq}
use Rattle.std.specs.Prelude.{IfSome, unwrap_or}
use Rattle.std.specs.List.{Contains, list_any, position_from}
use Rattle.std.proofs.lemmas.Bool.{eq-eqb, or_left}
use Rattle.std.proofs.lemmas.List.{get_or-map, length-map}
use Rattle.alpha_items.specs.declared.item.AsmItem.{AsmItem}
use Rattle.alpha_items.specs.declared.item.AsmItem.TheVariants.{Label, Name, Plain, Branch, TextAddress, DataAddress}
use Rattle.alpha_items.specs.Items.{label_used, names_label}
use Rattle.alpha_items.specs.Assembly.{Assembly, IsWhole, labels, label_index}
use Rattle.alpha_asm.specs.model.Sweeps.{label_target, target_of, AreTargets}

-- one step of a search, at an item that names the label or not
found_step : (b : Bool) (n k size : ℕ) (r : Option ℕ) (any : Bool) → (b || any) ≡ true →
    (any ≡ true → (r ≡ Some (n + 1 + k)) × (k < size)) →
    (cond b (Some n) r ≡ Some (n + cond (not b) (1 + k) 0)) × (cond (not b) (1 + k) 0 < suc size)
found_step true n k size r any h rest = (ap Some (omega arith), omega arith)
found_step false n k size r any h rest = let found = rest h in (found.0 ∙ ap Some (omega arith), omega (arith, found.1))

-- an item that names a label is found
found_from : (l : ℕ) (items : List AsmItem) (n : ℕ) → list_any (names_label l) items ≡ true →
    (position_from (names_label l) n items ≡ Some (n + label_index items l)) × (label_index items l < length items)
found_from l [] n h = let clash : ⊥ = cc in absurd clash
found_from l (i ∷ items) n h =
    found_step (names_label l i) n (label_index items l) (length items) (position_from (names_label l) (n + 1) items) (list_any (names_label l) items) h
    (found_from l items (n + 1))

-- a label that is named has an item that names it
or_true : (b : Bool) → (b || true) ≡ true
or_true true = refl
or_true false = refl

any_named : (l : ℕ) (items : List AsmItem) (k : ℕ) → k < length (labels items) → get_or (labels items) k l ≡ l → list_any (names_label l) items ≡ true
any_named l [] k h e = absurd (omega (arith, h))
any_named l (Label m ∷ items) zero h e = or_left (nat_eq m l) (list_any (names_label l) items) (eq-eqb m l e)
any_named l (Label m ∷ items) (suc k) h e =
    ap (λ b. nat_eq m l || b) (any_named l items k (omega (arith, h)) e) ∙ or_true (nat_eq m l)
any_named l (Name bytes ∷ items) k h e = any_named l items k h e
any_named l (Plain insn ∷ items) k h e = any_named l items k h e
any_named l (Branch op ra m ∷ items) k h e = any_named l items k h e
any_named l (TextAddress ra m ∷ items) k h e = any_named l items k h e
any_named l (DataAddress ra offset ∷ items) k h e = any_named l items k h e

pub label_found : (l : ℕ) (items : List AsmItem) → Contains (labels items) l →
    (position_from (names_label l) 0 items ≡ Some (label_index items l)) × (label_index items l < length items)
label_found l items named =
    let found = found_from l items 0 (any_named l items named.0 named.1 named.2) in
    (found.0 ∙ ap Some (omega arith), found.1)

-- the target of a label that is named, if any
target_inside : (items : List AsmItem) (o : Option ℕ) → 0 < length items → IfSome o (λ l. Contains (labels items) l) → label_target items o < length items
target_inside items None some named = some
target_inside items (Some l) some named =
    let found = label_found l items named in
    let at : label_target items (Some l) ≡ label_index items l = ap (λ (p : Option ℕ). unwrap_or p 0) found.0 in
    omega (arith, at, found.1)

target_right : (items : List AsmItem) (o : Option ℕ) (l : ℕ) → IfSome o (λ m. Contains (labels items) m) → o ≡ Some l → label_target items o ≡ label_index items l
target_right items None l named e = let clash : ⊥ = cc in absurd clash
target_right items (Some m) l named e =
    let same : m ≡ l = cc in
    ap (λ (p : Option ℕ). unwrap_or p 0) (label_found m items named).0 ∙ ap (label_index items) same

pub are_targets : (a : Assembly) → IsWhole a → AreTargets a.items (map (target_of a.items) a.items)
are_targets a whole = record {
  one_each = length-map a.items (target_of a.items);
  inside = λ k h.
      let at = get_or-map (target_of a.items) a.items k (Label 0) 0 h in
      let inside = target_inside a.items (label_used (get_or a.items k (Label 0))) (omega (arith, h)) (whole.labels_used k (Label 0) h) in
      omega (arith, at, inside);
  right = λ k d l h used.
      get_or-map (target_of a.items) a.items k d 0 h ∙ target_right a.items (label_used (get_or a.items k d)) l (whole.labels_used k d h) used;
}
