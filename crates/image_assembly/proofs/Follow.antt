-- One more function that is laid out.
use Rattle.std.proofs.Common.{◌≡◌, ℕ, zero, suc, ◌+◌, ◌-◌, ◌<◌, ◌≤◌, List, [], ◌∷◌, ◌++◌, length, take, get_or, All, sym, ap, ◌∙◌, subst, arith}
use Rattle.std.specs.Prelude.{sum_by}
use Rattle.std.proofs.lemmas.List.{take_all}
use Rattle.std.proofs.lemmas.List.Sums.{sum_by-cons}
use Rattle.alpha_items.specs.declared.final_fn.FinalFn.{FinalFn}
use Rattle.mem_objects.specs.declared.DataObject.{DataObject}
use Rattle.pass_core.specs.Functions.{AllInsns}
use Rattle.temp_ir.specs.declared.insn.TempInsn.{TempInsn}
use Rattle.temp_ir.specs.declared.insn.TempInsn.TheVariants as i
use Rattle.alloc_model.specs.declared.allocation.Allocation.{Allocation}
use Rattle.pass_checks.proofs.Alls.{all_more}
use Rattle.frame_layout.specs.Names.{CallsBelow}
use Rattle.frame_bounds.specs.frame_ranges.Ranges.{HasSmallNumbers}
use Rattle.image_assembly.specs.Layouts.{first_label, label_count, FunctionIsLaidOut, FollowFrom}

abbrev pub count_before : List Allocation → ℕ → ℕ
count_before xs k = sum_by label_count (take k xs)

pub follow_more : (globals : List DataObject) (number first k : ℕ) (a : Allocation) (f : FinalFn) (xs : List Allocation) (fs : List FinalFn) → k < length xs → a ≡ get_or xs k a
    → FollowFrom globals number first (take k xs) fs → FunctionIsLaidOut globals (number + k) (first + sum_by label_count (take k xs)) a f → FollowFrom globals number first (take (k + 1) xs) (fs ++ f ∷ [])
follow_more globals number first k a f [] fs lt is h new = absurd (omega (arith, lt))
follow_more globals number first zero a f (x ∷ xs) [] lt is h new =
    let n : number + 0 ≡ number = omega arith in
    let m : first + 0 ≡ first = omega arith in
    (subst (λ y. FunctionIsLaidOut globals number first y f) is (subst (λ z. FunctionIsLaidOut globals number z a f) m (subst (λ z. FunctionIsLaidOut globals z (first + 0) a f) n new)), tt)
follow_more globals number first zero a f (x ∷ xs) (y ∷ fs) lt is h new = absurd h
follow_more globals number first (suc k) a f (x ∷ xs) [] lt is h new = absurd h
follow_more globals number first (suc k) a f (x ∷ xs) (y ∷ fs) lt is h new =
    let n : number + suc k ≡ suc number + k = omega arith in
    let s = sum_by-cons label_count x (take k xs) in
    let m : first + sum_by label_count (x ∷ take k xs) ≡ first + label_count x + sum_by label_count (take k xs) = omega (arith, s) in
    let moved = subst (λ z. FunctionIsLaidOut globals (suc number + k) z a f) m (subst (λ z. FunctionIsLaidOut globals z (first + sum_by label_count (x ∷ take k xs)) a f) n new) in
    let e : suc (k + 1) ≡ suc k + 1 = omega arith in
    subst (λ c. FollowFrom globals number first (take c (x ∷ xs)) (y ∷ (fs ++ f ∷ []))) e (h.0, follow_more globals (suc number) (first + label_count x) k a f xs fs (omega (arith, lt)) is h.1 moved)

pub follow_all : (globals : List DataObject) (number first k : ℕ) (xs : List Allocation) (fs : List FinalFn) → length xs ≤ k
    → FollowFrom globals number first (take k xs) fs → FollowFrom globals number first xs fs
follow_all globals number first k xs fs past h = subst (λ ys. FollowFrom globals number first ys fs) (take_all k xs past) h

pub labels_more : (xs : List Allocation) (k : ℕ) (a : Allocation) → k < length xs → a ≡ get_or xs k a → sum_by label_count (take (k + 1) xs) ≡ sum_by label_count (take k xs) + label_count a
labels_more [] k a lt is = absurd (omega (arith, lt))
labels_more (x ∷ xs) zero a lt is =
    let s = sum_by-cons label_count x [] in
    let e : label_count a ≡ label_count x = ap label_count is in
    omega (arith, s, e)
labels_more (x ∷ xs) (suc k) a lt is =
    let s = sum_by-cons label_count x (take (k + 1) xs) in
    let t = sum_by-cons label_count x (take k xs) in
    let rest = labels_more xs k a (omega (arith, lt)) is in
    let e : suc k + 1 ≡ suc (k + 1) = omega arith in
    let one : sum_by label_count (x ∷ take (k + 1) xs) ≡ sum_by label_count (x ∷ take k xs) + label_count a = omega (arith, s, t, rest) in
    ap (λ c. sum_by label_count (take c (x ∷ xs))) e ∙ one

pub labels_small : (xs : List Allocation) (k : ℕ) (a : Allocation) → k < length xs → a ≡ get_or xs k a → sum_by label_count (take k xs) + label_count a ≤ sum_by label_count xs
labels_small [] k a lt is = absurd (omega (arith, lt))
labels_small (x ∷ xs) zero a lt is =
    let s = sum_by-cons label_count x xs in
    let e : label_count a ≡ label_count x = ap label_count is in
    omega (arith, s, e)
labels_small (x ∷ xs) (suc k) a lt is =
    let s = sum_by-cons label_count x xs in
    let t = sum_by-cons label_count x (take k xs) in
    let rest = labels_small xs k a (omega (arith, lt)) is in
    omega (arith, s, t, rest)

-- a called function's label is below a later one too
calls_one : (low high : ℕ) (x : TempInsn) → low ≤ high → CallsBelow low x → CallsBelow high x
calls_one low high (i.Call function arguments) le h = omega (arith, le, h)
calls_one low high (i.Address op destination base plus) le h = tt
calls_one low high (i.ObjectAddress destination place plus) le h = tt
calls_one low high (i.Load op destination pointer plus) le h = tt
calls_one low high (i.Store op value pointer plus) le h = tt
calls_one low high (i.Operate op destination left right) le h = tt
calls_one low high (i.Extend op destination source) le h = tt
calls_one low high (i.ToFixed register source) le h = tt
calls_one low high (i.FromFixed destination register) le h = tt
calls_one low high (i.SetFixed register number) le h = tt
calls_one low high (i.WriteArgument number source) le h = tt
calls_one low high (i.ReadArgument destination number) le h = tt
calls_one low high (i.Branch op source block) le h = tt
calls_one low high (i.Jump block) le h = tt
calls_one low high (i.Divide routine) le h = tt
calls_one low high (i.Serve service) le h = tt
calls_one low high (i.Return with_value) le h = tt
calls_one low high i.Mark le h = tt

pub calls_later : (low high : ℕ) (blocks : List (List TempInsn)) → low ≤ high → AllInsns (CallsBelow low) blocks → AllInsns (CallsBelow high) blocks
calls_later low high blocks le h = λ k d lt j x inside. calls_one low high _ le (h k d lt j x inside)

-- one more function of a program: it is laid out, its numbers have their ranges, and the next label is the one behind its
pub lay_out_next : (globals : List DataObject) (xs : List Allocation) (k first : ℕ) (fs : List FinalFn) (a : Allocation) (f : FinalFn) (labels : ℕ) (more : List FinalFn) → k < length xs → a ≡ get_or xs k a
    → FollowFrom globals 0 (first_label (length xs)) (take k xs) fs → All (λ (x : Allocation). AllInsns HasSmallNumbers x.func.blocks) (take k xs)
    → first ≡ first_label (length xs) + sum_by label_count (take k xs) → AllInsns HasSmallNumbers a.func.blocks → FunctionIsLaidOut globals k first a f
    → labels ≡ label_count a → more ≡ fs ++ f ∷ []
    → FollowFrom globals 0 (first_label (length xs)) (take (k + 1) xs) more × All (λ (x : Allocation). AllInsns HasSmallNumbers x.func.blocks) (take (k + 1) xs) × (first + labels ≡ first_label (length xs) + sum_by label_count (take (k + 1) xs))
lay_out_next globals xs k first fs a f labels more lt is follow small at one laid count pushed =
    let n : k ≡ 0 + k = omega arith in
    let next = labels_more xs k a lt is in
    let here = subst (λ z. FunctionIsLaidOut globals z (first_label (length xs) + sum_by label_count (take k xs)) a f) n (subst (λ z. FunctionIsLaidOut globals k z a f) at laid) in (
      subst (λ gs. FollowFrom globals 0 (first_label (length xs)) (take (k + 1) xs) gs) (sym pushed) (follow_more globals 0 (first_label (length xs)) k a f xs fs lt is follow here),
      all_more (λ (x : Allocation). AllInsns HasSmallNumbers x.func.blocks) xs k a lt is small one,
      omega (arith, next, at, count),
    )
