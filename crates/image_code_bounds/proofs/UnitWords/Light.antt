-- The allocations are light.
use Rattle.std.proofs.Common.{◌≡◌, ℕ, suc, ◌+◌, ◌*◌, ◌≤◌, List, [], ◌∷◌, Some, length, refl, ap, subst, sym, ◌∙◌}
use Rattle.std.specs.Prelude.{All, slice_get}
use Rattle.std.specs.List.{AllZip}
use Rattle.std.proofs.lemmas.List.Elements.{All-nil, All-cons}
use Rattle.c_typed_tree.specs.declared.units.TypedFn.{TypedFn}
use Rattle.c_typed_tree.specs.Weight.{function_weight}
use Rattle.pass_core.specs.Functions.{count_of, edge_count}
use Rattle.temp_ir.specs.declared.insn.TempInsn.{TempInsn}
use Rattle.temp_ir.specs.Cost.{bulk, call_count}
use Rattle.temp_ir.specs.Insns.{targets_of, flows_on_of}
use Rattle.alloc_model.specs.declared.allocation.Allocation.{Allocation}
use Rattle.alloc_model.specs.Places.{plan_of}
use Rattle.alloc_model.specs.Faithful.{HasLists}
use Rattle.alloc_rules.specs.Lean.{IsLean}
use Rattle.alloc_rules.specs.Allocations.{IsAllocationOf}
use Rattle.image_assembly_laws.specs.allocation_laws.Laws.{AllocationsStandByNumber, AllocationsAreNear}
use Rattle.image_code_bounds.specs.program_words.Words.{TextsAreWithinWeight, LightTextsFitImages}
use Rattle.image_code_bounds.specs.unit_words.Laws.{AllocationsAreLight, UnitTextsAreWithinWeight, UnitTextsFitImages}

-- there are as many as functions
zip-length : {X Y : Type 0} (R : X → Y → Type 0) (xs : List X) (ys : List Y) → AllZip R xs ys → length ys ≡ length xs
zip-length R [] [] h = refl
zip-length R [] (y ∷ ys) h = absurd h
zip-length R (x ∷ xs) [] h = absurd h
zip-length R (x ∷ xs) (y ∷ ys) h = ap suc (zip-length R xs ys h.1)

-- what each one has by its function
zip-all : {X Y : Type 0} (R : X → Y → Type 0) (P : Y → Type 0) → ((x : X) (y : Y) → R x y → P y) → (xs : List X) (ys : List Y) → AllZip R xs ys → All P ys
zip-all R P f [] [] h = All-nil P
zip-all R P f [] (y ∷ ys) h = absurd h
zip-all R P f (x ∷ xs) [] h = absurd h
zip-all R P f (x ∷ xs) (y ∷ ys) h = All-cons P y ys (f x y h.0) (zip-all R P f xs ys h.1)

-- the bulk hangs on the blocks alone
abbrev bulk-of : List (List TempInsn) → ℕ
bulk-of blocks = 64 + 24 * count_of blocks + 160 * call_count blocks + 256 * edge_count targets_of flows_on_of blocks

pub allocations_are_light : AllocationsStandByNumber → AllocationsAreNear → AllocationsAreLight
allocations_are_light by_number near unit program allocations prepared made = record {
  count = zip-length IsAllocationOf program.functions allocations made ∙ prepared.count;
  lists = zip-all IsAllocationOf (λ (a : Allocation). HasLists (plan_of a)) (λ g a h. h.faithful.lists) program.functions allocations made;
  lean = zip-all IsAllocationOf (λ (a : Allocation). IsLean (plan_of a)) (λ g a h. h.lean) program.functions allocations made;
  near = near program allocations made prepared.near;
  bulks = bulks;
}
  where
    bulks : (k : ℕ) (f : TypedFn) (a : Allocation) → slice_get unit.functions k ≡ Some f → slice_get allocations k ≡ Some a → bulk a.func ≤ 2048 * (function_weight unit.structs f + 1)
    bulks k f a is there =
        let at = by_number program.functions allocations made k a there in
        let most = (prepared.functions k f at.function is at.there).bulk in
        let same : bulk a.func ≡ bulk at.function = ap bulk-of at.is_allocation.blocks in
        subst (λ n. n ≤ 2048 * (function_weight unit.structs f + 1)) (sym same) most

pub unit_texts_are_within_weight : AllocationsAreLight → TextsAreWithinWeight → UnitTextsAreWithinWeight
unit_texts_are_within_weight light within unit program allocations finals prepared made laid far =
    within unit program.globals allocations finals (light unit program allocations prepared made) laid far

pub unit_texts_fit_images : AllocationsAreLight → LightTextsFitImages → UnitTextsFitImages
unit_texts_fit_images light fits unit program allocations finals few prepared made laid =
    fits unit program.globals allocations finals (light unit program allocations prepared made) laid few
