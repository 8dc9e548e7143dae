-- The assembly is whole.
use Rattle.std.proofs.Common.{◌≡◌, ◌≢◌, ℕ, zero, suc, ◌+◌, ◌<◌, ◌≤◌, List, [], ◌∷◌, ◌++◌, Option, Some, None, length, refl, sym, ap, ◌∙◌, subst, arith, ⊎_elim}
use Rattle.std.specs.Prelude.{All, IfSome, unwrap_or, cond}
use Rattle.std.specs.List.{AllPairs, Contains, position_or_len}
use Rattle.std.proofs.lemmas.Bool.{cases_lt, lt-ltb, le-ltb}
use Rattle.std.proofs.lemmas.List.Elements.{All-cons, All-append, All-weaker}
use Rattle.alpha_isa.specs.declared.insn.BranchOp.TheVariants.{Bsr}
use Rattle.alpha_items.specs.declared.item.AsmItem.{AsmItem}
use Rattle.alpha_items.specs.declared.item.AsmItem.TheVariants.{Label, Branch}
use Rattle.alpha_items.specs.declared.final_fn.FinalFn.{FinalFn}
use Rattle.alpha_items.specs.Items.{label_used, IsItem}
use Rattle.alpha_items.specs.Assembly.{labels, IsWhole}
use Rattle.alpha_rt.specs.Items.{all_items}
use Rattle.mem_objects.specs.declared.DataObject.{DataObject}
use Rattle.mem_objects.specs.Globals.{AreLawful}
use Rattle.mem_objects.specs.Layout.{data_end}
use Rattle.frame_memory.proofs.FlatGlobals.LaidOut.{lawful_ones_are_laid_out}
use Rattle.frame_memory.specs.global_data.GlobalBytes.{global_bytes}
use Rattle.alloc_model.specs.declared.allocation.Allocation.{Allocation}
use Rattle.image_assembly.specs.Leaving.{ending_items}
use Rattle.image_assembly.specs.Programs.{start_items}
use Rattle.image_assembly.specs.Assemblies.{final_items, is_main, main_of, whole_assembly}
use Rattle.image_assembly.specs.Layouts.{first_label, label_count, FollowFrom, FunctionsAreLaidOut}
use Rattle.image_assembly_laws.specs.Laws.{CanBeAssembled, AssembliesAreWhole}
use Rattle.image_assembly_laws.proofs.Distinct.{Each, Distinct, each-weaker, each-append, distinct-append, pairs-differ, has-later, has-left, has-right}
use Rattle.image_assembly_laws.proofs.Routines.{items-fit, routines-fit, routine-labels-differ, routine-labels-low, routines-use, has-entry}
use Rattle.image_assembly_laws.proofs.Data.{size-is, fixes-in, fixes-apart}
use Rattle.image_assembly_laws.proofs.Functions.{end_of, finals-fit, finals-use}
use Rattle.image_assembly_laws.proofs.Named.{own_from, labels-append, final-labels, own-high, own-distinct, has-function, has-block}

-- ---- the function `main` is one of them

main-below : (finals : List FinalFn) → 1 ≤ length finals → main_of finals < length finals
main-below finals some = ⊎_elim
    (λ lt. let e : main_of finals ≡ position_or_len is_main finals = ap (λ b. unwrap_or (cond b (Some (position_or_len is_main finals)) None) 0) (lt-ltb (position_or_len is_main finals) (length finals) lt) in omega (arith, e, lt))
    (λ le. let e : main_of finals ≡ 0 = ap (λ b. unwrap_or (cond b (Some (position_or_len is_main finals)) None) 0) (le-ltb (position_or_len is_main finals) (length finals) le) in omega (arith, e, some))
    (cases_lt (position_or_len is_main finals) (length finals))

pub follow-length : (globals : List DataObject) (number first : ℕ) (allocations : List Allocation) (finals : List FinalFn) → FollowFrom globals number first allocations finals → length finals ≡ length allocations
follow-length globals number first [] [] h = refl
follow-length globals number first [] (f ∷ finals) h = absurd h
follow-length globals number first (a ∷ allocations) [] h = absurd h
follow-length globals number first (a ∷ allocations) (f ∷ finals) h = ap suc (follow-length globals (suc number) (first + label_count a) allocations finals h.1)

-- ---- items that follow the start piece

start-all : (P : AsmItem → Type 0) (main : ℕ) (rest : List AsmItem) → P (Label 0) → P (Branch Bsr 26 (256 + main)) → All P ending_items → All P rest → All P (start_items main rest)
start-all P main rest a b e h =
    All-cons P (Label 0) (Branch Bsr 26 (256 + main) ∷ (ending_items ++ rest)) a
    (All-cons P (Branch Bsr 26 (256 + main)) (ending_items ++ rest) b (All-append P ending_items rest e h))

module _ (globals : List DataObject) (allocations : List Allocation) (finals : List FinalFn) (lawful : ∥ AreLawful globals ∥₁) (last : data_end globals ≤ 67108864)
    (some : 1 ≤ length allocations) (sound : All (CanBeAssembled (length allocations) globals) allocations) (laid : FunctionsAreLaidOut globals allocations finals) where
  abbrev n : ℕ
  n = length allocations

  abbrev first : ℕ
  first = first_label n

  abbrev main : ℕ
  main = main_of finals

  abbrev texts : List AsmItem
  texts = final_items finals ++ all_items

  abbrev items : List AsmItem
  items = start_items main texts

  abbrev size : ℕ
  size = length (global_bytes globals)

  abbrev own : List ℕ
  own = own_from 0 first allocations

  main-there : main < n
  main-there = let count = follow-length globals 0 first allocations finals laid in let below = main-below finals (omega (arith, count, some)) in omega (arith, below, count)

  -- ---- fields

  items-in : All (λ x. IsItem size x) items
  items-in =
      let is = size-is globals lawful last in
      start-all (IsItem size) main texts tt (omega arith) (items-fit size ending_items refl)
      (All-append (IsItem size) (final_items finals) all_items
      (subst (λ s. All (IsItem s) (final_items finals)) (sym is) (finals-fit n globals 0 first allocations finals (lawful_ones_are_laid_out globals lawful).layout sound laid))
      (routines-fit size))

  -- ---- labels

  labels-are : labels items ≡ 0 ∷ (own ++ labels all_items)
  labels-are =
      ap (λ ls. 0 ∷ ls) (labels-append (final_items finals) all_items)
      ∙ ap (λ ls. 0 ∷ (ls ++ labels all_items)) (final-labels globals 0 first allocations finals laid)

  high : Each (λ l. 256 ≤ l) own
  high = own-high 0 first first allocations (omega arith) (omega arith)

  apart : Distinct (0 ∷ (own ++ labels all_items))
  apart = (
    each-append (λ l. 0 ≢ l) own (labels all_items)
        (each-weaker (λ l. 256 ≤ l) (λ l. 0 ≢ l) own (λ l h e. omega (arith, h, e)) high)
        (each-weaker (λ l. (1 ≤ l) × (l ≤ 20)) (λ l. 0 ≢ l) (labels all_items) (λ l h e. let low = h.0 in omega (arith, low, e)) routine-labels-low),
    distinct-append own (labels all_items) (own-distinct 0 first first allocations (omega arith) (omega arith)) routine-labels-differ
        (each-weaker (λ l. 256 ≤ l) (λ x. Each (λ y. x ≢ y) (labels all_items)) own
        (λ x h. each-weaker (λ l. (1 ≤ l) × (l ≤ 20)) (λ y. x ≢ y) (labels all_items) (λ y b e. let most = b.1 in omega (arith, h, most, e)) routine-labels-low)
        high),
  )

  IsKnownLabel : ℕ → Type 0
  IsKnownLabel l = Contains (labels items) l

  known-own : (l : ℕ) → Contains own l → IsKnownLabel l
  unfolding IsKnownLabel
  known-own l h = subst (λ ls. Contains ls l) (sym labels-are) (has-later 0 l (own ++ labels all_items) (has-left own (labels all_items) l h))

  known-routine : (l : ℕ) → Contains (labels all_items) l → IsKnownLabel l
  unfolding IsKnownLabel
  known-routine l h = subst (λ ls. Contains ls l) (sym labels-are) (has-later 0 l (own ++ labels all_items) (has-right own (labels all_items) l h))

  entries : (k : ℕ) → k < n → IsKnownLabel (256 + k)
  entries k lt = let e : 256 + 0 + k ≡ 256 + k = omega arith in subst IsKnownLabel e (known-own (256 + 0 + k) (has-function 0 first k allocations lt))

  used : All (λ x. IfSome (label_used x) IsKnownLabel) items
  used =
      start-all (λ x. IfSome (label_used x) IsKnownLabel) main texts tt (entries main main-there) ending-uses
      (All-append (λ x. IfSome (label_used x) IsKnownLabel) (final_items finals) all_items
      (finals-use n globals IsKnownLabel entries (λ l low most. known-routine l (has-entry l low most)) 0 first (end_of first allocations) allocations finals (λ l low below. known-own l (has-block 0 first l allocations low below)) refl sound laid)
      (All-weaker (λ x. IfSome (label_used x) (Contains (labels all_items))) (λ x. IfSome (label_used x) IsKnownLabel) (λ x h. if-known (label_used x) h) all_items routines-use))
    where
      if-known : (o : Option ℕ) → IfSome o (Contains (labels all_items)) → IfSome o IsKnownLabel
      if-known None h = tt
      if-known (Some l) h = known-routine l h

      ending-uses : All (λ x. IfSome (label_used x) IsKnownLabel) ending_items
      ending-uses zero d lt = tt
      ending-uses (suc zero) d lt = tt
      ending-uses (suc (suc zero)) d lt = tt
      ending-uses (suc (suc (suc k))) d lt = absurd (omega (arith, lt))

  pub whole : IsWhole (whole_assembly finals globals)
  unfolding IsKnownLabel
  whole = record {
    items = items-in;
    labels_once = subst (λ ls. AllPairs (λ l m. l ≢ m) ls) (sym labels-are) (pairs-differ (0 ∷ (own ++ labels all_items)) apart);
    labels_used = used;
    entry = refl;
    bytes = let is = size-is globals lawful last in omega (arith, is, last);
    fixes = fixes-in globals lawful last;
    fixes_apart = fixes-apart globals lawful last;
  }

pub assemblies-whole : AssembliesAreWhole
assemblies-whole globals allocations finals lawful last some sound laid = whole globals allocations finals lawful last some sound laid
