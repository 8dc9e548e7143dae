-- Whether a branch goes too far, from what the code compares.
use Rattle.std.proofs.Common.{◌≡◌, ℕ, ◌+◌, ◌<◌, ◌≤◌, Bool, true, false, List, length, get_or, Some, refl, sym, ◌∙◌, ap, arith}
use Rattle.std.specs.Bool.{OnTrue, OnFalse}
use Rattle.std.proofs.lemmas.List.{get_or_read}
use Rattle.alpha_isa.specs.declared.insn.BranchOp.{BranchOp}
use Rattle.alpha_items.specs.declared.item.AsmItem.{AsmItem}
use Rattle.alpha_items.specs.declared.item.AsmItem.TheVariants.{Label, Name, Plain, Branch, TextAddress, DataAddress}
use Rattle.alpha_items.specs.Assembly.{label_index}
use Rattle.alpha_items.specs.Items.{label_used}
use Rattle.alpha_items.specs.Layout.{item_place, label_place, is_far}
use Rattle.alpha_asm.specs.model.Sweeps.{is_branch_item, AreTargets, SweptBack, SweptForth, BackReachesAt, ForthReachesAt, TooFarBack, TooFarForth, rest, reach}

-- a fact for one value of a truth
pub on_true : (b : Bool) (P : Type 0) → (b ≡ true → P) → OnTrue b P
on_true true P f = f refl
on_true false P f = tt

pub on_false : (b : Bool) (P : Type 0) → (b ≡ false → P) → OnFalse b P
on_false true P f = tt
on_false false P f = f refl

-- a branch, by its parts
record IsBranch (i : AsmItem) : Type 0 where
  op : BranchOp
  ra : ℕ
  l : ℕ
  is : i ≡ Branch op ra l

branch_is : (i : AsmItem) → is_branch_item i ≡ true → IsBranch i
branch_is (Label l) h = let clash : ⊥ = cc in absurd clash
branch_is (Name bytes) h = let clash : ⊥ = cc in absurd clash
branch_is (Plain insn) h = let clash : ⊥ = cc in absurd clash
branch_is (Branch op ra l) h = record { op = op; ra = ra; l = l; is = refl }
branch_is (TextAddress ra l) h = let clash : ⊥ = cc in absurd clash
branch_is (DataAddress ra offset) h = let clash : ⊥ = cc in absurd clash

-- the branch at i is not far, and its target is t
pub record At (items : List AsmItem) (far : List Bool) (i t : ℕ) : Type 0 where
  pub op : BranchOp
  pub ra : ℕ
  pub l : ℕ
  pub is_branch : get_or items i (Label 0) ≡ Branch op ra l
  pub target : t ≡ label_index items l
  pub short : is_far far i ≡ false

pub branch_at : (items : List AsmItem) (far : List Bool) (targets : List ℕ) (i : ℕ) (x : AsmItem) → AreTargets items targets → i < length items →
    x ≡ get_or items i x → is_branch_item x ≡ true → is_far far i ≡ false → At items far i (get_or targets i 0)
branch_at items far targets i x are inside read is short =
    let parts = branch_is x is in
    let here : get_or items i (Label 0) ≡ Branch parts.op parts.ra parts.l = sym (get_or_read items i x inside read (Label 0)) ∙ parts.is in
    record {
      op = parts.op;
      ra = parts.ra;
      l = parts.l;
      is_branch = here;
      target = are.right i (Label 0) parts.l inside (ap label_used here);
      short = short;
    }

pub too_far_back : (items : List AsmItem) (far : List Bool) (places : List ℕ) (i t : ℕ) → SweptBack items far places i → At items far i t →
    t ≤ i → get_or places t 0 + reach < get_or places i 0 + 1 → TooFarBack items far i
too_far_back items far places i t swept at behind beyond =
    let there = swept.at t behind in
    let here = swept.at i (omega arith) in
    let label : item_place items far t ≡ label_place items far at.l = ap (item_place items far) at.target in
    record {
      op = at.op;
      ra = at.ra;
      l = at.l;
      is_branch = at.is_branch;
      short = at.short;
      behind = omega (arith, behind, at.target);
      beyond = omega (arith, beyond, there, here, label);
    }

-- the label of the branch at i, by any of its readings
label_of : (items : List AsmItem) (far : List Bool) (i t : ℕ) → At items far i t → (op : BranchOp) (ra l : ℕ) →
    get_or items i (Label 0) ≡ Branch op ra l → t ≡ label_index items l
label_of items far i t at op ra l is =
    let same : Some at.l ≡ Some l = ap label_used (sym at.is_branch ∙ is) in
    let label : at.l ≡ l = cc in
    at.target ∙ ap (label_index items) label

pub near_back : (items : List AsmItem) (far : List Bool) (places : List ℕ) (i t : ℕ) → SweptBack items far places i → At items far i t →
    (t ≤ i → get_or places i 0 + 1 ≤ get_or places t 0 + reach) → BackReachesAt items far i
near_back items far places i t swept at close op ra l is short behind =
    let label = label_of items far i t at op ra l is in
    let before : t ≤ i = omega (arith, label, behind) in
    let there = swept.at t before in
    let here = swept.at i (omega arith) in
    let at_label : item_place items far t ≡ label_place items far l = ap (item_place items far) label in
    omega (arith, close before, there, here, at_label)

pub too_far_forth : (items : List AsmItem) (far : List Bool) (rests : List ℕ) (i t : ℕ) → i < length items → t < length items →
    SweptForth items far rests (i + 1) → At items far i t → i < t → get_or rests t 0 + reach ≤ get_or rests (i + 1) 0 → TooFarForth items far i
too_far_forth items far rests i t inside in_text swept at ahead beyond =
    let there = swept.at t (omega (arith, ahead)) (omega (arith, in_text)) in
    let here = swept.at (i + 1) (omega arith) (omega (arith, inside)) in
    let label : rest items far t ≡ rest items far (label_index items at.l) = ap (rest items far) at.target in
    record {
      op = at.op;
      ra = at.ra;
      l = at.l;
      is_branch = at.is_branch;
      short = at.short;
      ahead = omega (arith, ahead, at.target);
      beyond = omega (arith, beyond, there, here, label);
    }

pub near_forth : (items : List AsmItem) (far : List Bool) (rests : List ℕ) (i t : ℕ) → i < length items → t < length items →
    SweptForth items far rests (i + 1) → At items far i t → (i < t → get_or rests (i + 1) 0 < get_or rests t 0 + reach) → ForthReachesAt items far i
near_forth items far rests i t inside in_text swept at close op ra l is short ahead =
    let label = label_of items far i t at op ra l is in
    let behind : i < t = omega (arith, label, ahead) in
    let there = swept.at t (omega (arith, behind)) (omega (arith, in_text)) in
    let here = swept.at (i + 1) (omega arith) (omega (arith, inside)) in
    let at_label : rest items far t ≡ rest items far (label_index items l) = ap (rest items far) label in
    omega (arith, close behind, there, here, at_label)
