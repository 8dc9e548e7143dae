-- How many labels the functions have.
use Rattle.std.proofs.Common.{◌≡◌, ℕ, suc, ◌+◌, ◌≤◌, List, [], ◌∷◌, length, refl, ap, arith}
use Rattle.std.specs.Prelude.{sum_by}
use Rattle.std.proofs.lemmas.List.Sums.{sum_by-cons}
use Rattle.alpha_items.specs.declared.final_fn.FinalFn.{FinalFn}
use Rattle.mem_objects.specs.declared.DataObject.{DataObject}
use Rattle.temp_ir.specs.Programs.{TempFn}
use Rattle.alloc_model.specs.declared.allocation.Allocation.{Allocation}
use Rattle.image_assembly_laws.specs.Layouts.{first_label, label_count, FollowFrom}
use Rattle.alloc_rules.specs.Allocations.{AreAllocationsOf}
use Rattle.image_assembly_laws.specs.allocation_laws.Laws.{LabelsAreFew, AsManyAreLaidOut}

-- all functions take two labels more each than they have blocks
record LabelsFit (functions labels all : ℕ) : Type 0 where
  few : functions ≤ all
  more : functions + labels ≡ all

counted : (fs : List TempFn) (allocations : List Allocation) → AreAllocationsOf fs allocations → LabelsFit (length allocations) (sum_by label_count allocations) (sum_by (λ (f : TempFn). length f.blocks + 2) fs)
counted [] [] h = record { few = omega arith; more = refl }
counted [] (a ∷ allocations) h = absurd h
counted (f ∷ fs) [] h = absurd h
counted (f ∷ fs) (a ∷ allocations) h =
    let same : length a.func.blocks ≡ length f.blocks = ap length h.0.blocks in
    let rest = counted fs allocations h.1 in
    let few = rest.few in
    let more = rest.more in
    let left = sum_by-cons (λ (f : TempFn). length f.blocks + 2) f fs in
    let right = sum_by-cons label_count a allocations in
    record { few = omega (arith, few, left); more = omega (arith, same, more, left, right) }

pub labels_are_few : LabelsAreFew
labels_are_few program allocations h small =
    let all = counted program.functions allocations h in
    let few = all.few in
    let more = all.more in
    record { labels = omega (arith, more, small); functions = omega (arith, few, small) }

laid_out : (globals : List DataObject) (number first : ℕ) (allocations : List Allocation) (finals : List FinalFn) → FollowFrom globals number first allocations finals → length finals ≡ length allocations
laid_out globals number first [] [] h = refl
laid_out globals number first [] (f ∷ finals) h = absurd h
laid_out globals number first (a ∷ allocations) [] h = absurd h
laid_out globals number first (a ∷ allocations) (f ∷ finals) h = ap suc (laid_out globals (suc number) (first + label_count a) allocations finals h.1)

pub layout_keeps_count : AsManyAreLaidOut
layout_keeps_count globals allocations finals h = laid_out globals 0 (first_label (length allocations)) allocations finals h
