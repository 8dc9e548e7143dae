-- The labels that laid-out functions name differ, and are all that they use of their own.
use Rattle.std.proofs.Common.{◌≡◌, ◌≢◌, ℕ, zero, suc, ◌+◌, ◌<◌, ◌≤◌, ◌⊎◌, inl, inr, ⊎_elim, List, [], ◌∷◌, ◌++◌, length, refl, ap, ◌∙◌, subst, arith, append-nil}
use Rattle.std.specs.List.{Contains, range_with_len}
use Rattle.std.proofs.lemmas.Bool.{cases_lt}
use Rattle.std.proofs.lemmas.List.Elements.{filter_map-append}
use Rattle.alpha_items.specs.declared.item.AsmItem.{AsmItem}
use Rattle.alpha_items.specs.declared.final_fn.FinalFn.{FinalFn}
use Rattle.alpha_items.specs.Items.{label_named}
use Rattle.alpha_items.specs.Assembly.{labels}
use Rattle.mem_objects.specs.declared.DataObject.{DataObject}
use Rattle.alloc_model.specs.declared.allocation.Allocation.{Allocation}
use Rattle.alloc_model.specs.Places.{plan_of}
use Rattle.frame_bounds.specs.Settings.{near_plan}
use Rattle.image_assembly.proofs.Soundness.{near_length}
use Rattle.frame_bounds.specs.frame_labels.Labels.{own_labels}
use Rattle.frame_bounds.proofs.FrameLabels.Named.{function_named}
use Rattle.image_assembly.specs.Assemblies.{final_items}
use Rattle.image_assembly.specs.Layouts.{label_count, FollowFrom}
use Rattle.image_assembly_laws.proofs.Distinct.{Each, Distinct, each-weaker, each-append, distinct-append, range-from, range-distinct, has-first, has-later, has-left, has-right, range-has}
use Rattle.image_assembly_laws.proofs.Functions.{end_of}

-- the label of a function, and those of its blocks and of its exit part
abbrev one_from : (number first : ℕ) → Allocation → List ℕ
one_from number first a = (256 + number) ∷ range_with_len first (label_count a)

abbrev pub own_from : (number first : ℕ) → List Allocation → List ℕ
own_from number first [] = []
own_from number first (a ∷ allocations) = one_from number first a ++ own_from (suc number) (first + label_count a) allocations

pub labels-append : (xs ys : List AsmItem) → labels (xs ++ ys) ≡ labels xs ++ labels ys
labels-append xs ys = filter_map-append label_named xs ys

pub final-labels : (globals : List DataObject) (number first : ℕ) (allocations : List Allocation) (finals : List FinalFn) → FollowFrom globals number first allocations finals → labels (final_items finals) ≡ own_from number first allocations
final-labels globals number first [] [] h = refl
final-labels globals number first [] (f ∷ finals) h = absurd h
final-labels globals number first (a ∷ allocations) [] h = absurd h
final-labels globals number first (a ∷ allocations) (f ∷ finals) h =
    let p = near_plan (plan_of a) in
    labels-append f.items.items (final_items finals)
    ∙ ap (λ ls. ls ++ labels (final_items finals))
    (ap labels h.0.items ∙ function_named p globals first number [] ∙ append-nil (own_labels p first number) ∙ ap (λ n. (256 + number) ∷ range_with_len first (n + 1)) (near_length a.func.blocks))
    ∙ ap (λ ls. one_from number first a ++ ls) (final-labels globals (suc number) (first + label_count a) allocations finals h.1)

-- ---- they differ

abbrev Inside : (number first last l : ℕ) → Type 0
Inside number first last l = ((256 + number ≤ l) × (l < last)) ⊎ (first ≤ l)

own-inside : (number first last : ℕ) (allocations : List Allocation) → last ≡ 256 + number + length allocations → last ≤ first → Each (Inside number first last) (own_from number first allocations)
own-inside number first last [] is le = tt
own-inside number first last (a ∷ allocations) is le =
    each-append (Inside number first last) (one_from number first a) (own_from (suc number) (first + label_count a) allocations)
    (inl (omega arith, omega (arith, is)), each-weaker (λ l. (first ≤ l) × (l < first + label_count a)) (Inside number first last) (range_with_len first (label_count a)) (λ l h. inr h.0) (range-from first (label_count a)))
    (each-weaker (Inside (suc number) (first + label_count a) last) (Inside number first last) (own_from (suc number) (first + label_count a) allocations)
    (λ l h. ⊎_elim (λ b. let low = b.0 in inl (omega (arith, low), b.1)) (λ b. inr (omega (arith, b))) h)
    (own-inside (suc number) (first + label_count a) last allocations (omega (arith, is)) (omega (arith, le))))

pub own-high : (number first last : ℕ) (allocations : List Allocation) → last ≡ 256 + number + length allocations → last ≤ first → Each (λ l. 256 ≤ l) (own_from number first allocations)
own-high number first last allocations is le =
    each-weaker (Inside number first last) (λ l. 256 ≤ l) (own_from number first allocations)
    (λ l h. ⊎_elim (λ b. let low = b.0 in omega (arith, low)) (λ b. omega (arith, b, is, le)) h)
    (own-inside number first last allocations is le)

pub own-distinct : (number first last : ℕ) (allocations : List Allocation) → last ≡ 256 + number + length allocations → last ≤ first → Distinct (own_from number first allocations)
own-distinct number first last [] is le = tt
own-distinct number first last (a ∷ allocations) is le =
    let rest = own_from (suc number) (first + label_count a) allocations in
    let later = own-inside (suc number) (first + label_count a) last allocations (omega (arith, is)) (omega (arith, le)) in
    distinct-append (one_from number first a) rest (
      each-weaker (λ l. (first ≤ l) × (l < first + label_count a)) (λ l. 256 + number ≢ l) (range_with_len first (label_count a)) (λ l h e. let low = h.0 in omega (arith, low, e, is, le)) (range-from first (label_count a)),
      range-distinct first (label_count a),
    )
    (own-distinct (suc number) (first + label_count a) last allocations (omega (arith, is)) (omega (arith, le))) (
      each-weaker (Inside (suc number) (first + label_count a) last) (λ l. 256 + number ≢ l) rest
          (λ l h e. ⊎_elim (λ b. let low = b.0 in omega (arith, low, e)) (λ b. omega (arith, b, e, is, le)) h) later,
      each-weaker (λ l. (first ≤ l) × (l < first + label_count a)) (λ x. Each (λ y. x ≢ y) rest) (range_with_len first (label_count a))
          (λ x b. each-weaker (Inside (suc number) (first + label_count a) last) (λ y. x ≢ y) rest
          (λ y h e. let low = b.0 in let high = b.1 in ⊎_elim (λ c. let under = c.1 in omega (arith, low, under, e, le)) (λ c. omega (arith, c, high, e)) h) later)
          (range-from first (label_count a)),
    )

-- ---- they are there

pub has-function : (number first k : ℕ) (allocations : List Allocation) → k < length allocations → Contains (own_from number first allocations) (256 + number + k)
has-function number first k [] lt = absurd (omega (arith, lt))
has-function number first zero (a ∷ allocations) lt =
    let e : 256 + number ≡ 256 + number + 0 = omega arith in
    subst (λ l. Contains (own_from number first (a ∷ allocations)) l) e (has-first (256 + number) (range_with_len first (label_count a) ++ own_from (suc number) (first + label_count a) allocations))
has-function number first (suc k) (a ∷ allocations) lt =
    let e : 256 + suc number + k ≡ 256 + number + suc k = omega arith in
    subst (λ l. Contains (own_from number first (a ∷ allocations)) l) e
    (has-right (one_from number first a) (own_from (suc number) (first + label_count a) allocations) (256 + suc number + k) (has-function (suc number) (first + label_count a) k allocations (omega (arith, lt))))

pub has-block : (number first l : ℕ) (allocations : List Allocation) → first ≤ l → l < end_of first allocations → Contains (own_from number first allocations) l
has-block number first l [] low high = absurd (omega (arith, low, high))
has-block number first l (a ∷ allocations) low high = ⊎_elim
    (λ lt. has-left (one_from number first a) (own_from (suc number) (first + label_count a) allocations) l
    (has-later (256 + number) l (range_with_len first (label_count a)) (range-has first (label_count a) l low lt)))
    (λ le. has-right (one_from number first a) (own_from (suc number) (first + label_count a) allocations) l (has-block (suc number) (first + label_count a) l allocations le high))
    (cases_lt l (first + label_count a))
