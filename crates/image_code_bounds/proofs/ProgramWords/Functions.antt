-- The words of all functions.
use Rattle.std.proofs.Common.{◌≡◌, ℕ, suc, ◌+◌, ◌*◌, ◌≤◌, List, [], ◌∷◌, Some, length, refl, arith}
use Rattle.std.specs.Prelude.{All, slice_get, sum_by}
use Rattle.std.proofs.lemmas.List.Elements.{All-head, All-tail}
use Rattle.std.proofs.lemmas.List.Sums.{sum_by-cons}
use Rattle.alpha_items.specs.declared.final_fn.FinalFn.{FinalFn}
use Rattle.c_typed_tree.specs.declared.types.StructDef.{StructDef}
use Rattle.c_typed_tree.specs.declared.units.TypedFn.{TypedFn}
use Rattle.c_typed_tree.specs.Weight.{function_weight}
use Rattle.mem_objects.specs.declared.DataObject.{DataObject}
use Rattle.pass_core.specs.Functions.{AllInsns}
use Rattle.temp_ir.specs.Cost.{bulk}
use Rattle.alloc_model.specs.declared.allocation.Allocation.{Allocation}
use Rattle.alloc_model.specs.Places.{plan_of}
use Rattle.alloc_model.specs.Faithful.{HasLists}
use Rattle.alloc_rules.specs.Lean.{IsLean}
use Rattle.image_code_bounds.specs.frame_words.Words.{most_words_of}
use Rattle.frame_bounds.specs.Near.{IsNear}
use Rattle.image_assembly.specs.Assemblies.{final_items}
use Rattle.image_assembly.specs.Layouts.{FollowFrom, label_count}
use Rattle.image_code_bounds.specs.program_words.Words.{LaidOutFunctionsAreShort}
use Rattle.image_code_bounds.proofs.ProgramWords.Parts.{words_join}

abbrev pub weights : List StructDef → List TypedFn → ℕ
weights ds fs = sum_by (λ f. 1 + function_weight ds f) fs

module _ (short : LaidOutFunctionsAreShort) (ds : List StructDef) (globals : List DataObject) where
  pub finals_short : (number first : ℕ) (fs : List TypedFn) (allocations : List Allocation) (finals : List FinalFn) → length allocations ≡ length fs →
      All (λ (a : Allocation). HasLists (plan_of a)) allocations → All (λ (a : Allocation). IsLean (plan_of a)) allocations → All (λ (a : Allocation). AllInsns IsNear a.func.blocks) allocations →
      ((k : ℕ) (f : TypedFn) (a : Allocation) → slice_get fs k ≡ Some f → slice_get allocations k ≡ Some a → bulk a.func ≤ 2048 * (function_weight ds f + 1)) →
      FollowFrom globals number first allocations finals → most_words_of (final_items finals) ≤ 2048 * weights ds fs
  finals_short number first fs [] [] count lists lean near bulks h = omega arith
  finals_short number first fs [] (x ∷ finals) count lists lean near bulks h = absurd h
  finals_short number first fs (a ∷ allocations) [] count lists lean near bulks h = absurd h
  finals_short number first [] (a ∷ allocations) (x ∷ finals) count lists lean near bulks h = absurd (omega (arith, count))
  finals_short number first (f ∷ fs) (a ∷ allocations) (x ∷ finals) count lists lean near bulks h =
      let has = All-head (λ (b : Allocation). HasLists (plan_of b)) a allocations lists in
      let leans = All-head (λ (b : Allocation). IsLean (plan_of b)) a allocations lean in
      let nears = All-head (λ (b : Allocation). AllInsns IsNear b.func.blocks) a allocations near in
      let one = short globals number first a x has leans nears h.0 in
      let most = bulks 0 f a refl refl in
      let rest = finals_short (suc number) (first + label_count a) fs allocations finals (omega (arith, count))
      (All-tail (λ (b : Allocation). HasLists (plan_of b)) a allocations lists) (All-tail (λ (b : Allocation). IsLean (plan_of b)) a allocations lean)
      (All-tail (λ (b : Allocation). AllInsns IsNear b.func.blocks) a allocations near) (λ k g b e i. bulks (suc k) g b e i) h.1 in
      let joined = words_join x.items.items (final_items finals) in
      let sum = sum_by-cons (λ g. 1 + function_weight ds g) f fs in
      counted (most_words_of x.items.items) (bulk a.func) (most_words_of (final_items finals)) (most_words_of (final_items (x ∷ finals))) (function_weight ds f) (weights ds fs) (weights ds (f ∷ fs)) one most rest joined sum
    where
      counted : (one most rest all w ws sum : ℕ) → one ≤ most → most ≤ 2048 * (w + 1) → rest ≤ 2048 * ws → all ≡ one + rest → sum ≡ (1 + w) + ws → all ≤ 2048 * sum
      counted one most rest all w ws sum a b c d e = omega (arith, a, b, c, d, e)
