-- Functions over temporaries of those of a unit, one by one.
use Rattle.std.proofs.Common.{◌≡◌, ℕ, zero, suc, ◌+◌, ◌<◌, ◌≤◌, List, [], ◌∷◌, Some, length, map, get_or, sym, ap, ◌∙◌, subst, arith}
use Rattle.std.specs.Prelude.{slice_get, slice_index, sum_by}
use Rattle.std.proofs.lemmas.List.Sums.{sum_by-cons}
use Rattle.std.proofs.lemmas.Option.{slice_get-get_or, slice_get_within, same_Some}
use Rattle.mem_objects.specs.declared.TheConstants.{MOST_DATA}
use Rattle.c_typed_tree.specs.declared.types.StructDef.{StructDef}
use Rattle.c_typed_tree.specs.declared.units.TypedFn.{TypedFn}
use Rattle.c_typed_tree.specs.Weight.{function_weight}
use Rattle.c_typing_weight.specs.Limits.{most_weight}
use Rattle.c_typed_tree.specs.Rooms.{room, locals_bytes, greatest_locals}
use Rattle.pass_core.specs.declared.function.MemoryLocal.{MemoryLocal}
use Rattle.temp_ir.specs.declared.insn.TempInsn.{TempInsn}
use Rattle.temp_ir.specs.Programs.{TempFn}
use Rattle.alpha_rt.specs.Calls.{scratch_size}
use Rattle.alloc_model.specs.declared.allocation.Allocation.{Allocation}
use Rattle.alloc_model.specs.Effect.{widest_call}
use Rattle.alloc_model.specs.Places.{plan_of}
use Rattle.frame_memory.specs.flat_frames.Shapes.{objects_size, frame_size}
use Rattle.frame_simulation.specs.function_shapes.Shapes.{shape_of}
use Rattle.image_code_bounds.proofs.FrameRooms.Frames.{objects_are, frames_fit_rooms}
use Rattle.image_assembly_laws.proofs.AllocationLaws.Placed.{planned_at}
use Rattle.alloc_rules.specs.Allocations.{IsAllocationOf}
use Rattle.block_preparation_laws.specs.Fit.{IsTempFunctionOf}
use Rattle.image_assembly_laws.specs.allocation_laws.Laws.{HasFrame}
use Rattle.image_assembly_laws.proofs.AllocationLaws.Lists.{allocations_stand_by_number}
use Rattle.image_code_bounds.specs.program_rooms.Laws.{FunctionsHaveFrames, FramesFitTheirRooms}

-- ---- one function

module _ (ds : List StructDef) where
  frame-made : (f : TypedFn) (t : TempFn) → IsTempFunctionOf ds f t → function_weight ds f ≤ most_weight → locals_bytes ds f ≤ MOST_DATA → HasFrame t
  frame-made f t m light little =
      let params = m.params in
      let temps = m.temps in
      let own = m.stands.registers in
      let few = m.stands.within.registers in
      let size : objects_size (map (λ (o : MemoryLocal). o.size) t.objects) ≡ locals_bytes ds f = ap (λ (os : List MemoryLocal). objects_size (map (λ (o : MemoryLocal). o.size) os)) (m.objects ∙ m.stands.objects) ∙ objects_are ds f.locals in
      record {
        params = omega (arith, params, own, few, light);
        temps = omega (arith, temps, few, light);
        objects = subst (λ n. n ≤ MOST_DATA) (sym size) little;
      }

  room-made : (f : TypedFn) (t : TempFn) (a : Allocation) → IsTempFunctionOf ds f t → IsAllocationOf t a → frame_size (shape_of (plan_of a)) + scratch_size ≤ room ds f
  room-made f t a m of =
      let same = of.temps in
      let temps = m.temps in
      frames_fit_rooms ds f m.code (plan_of a)
      record {
        stands = m.stands;
        temps = omega (arith, same, temps);
        sizes = ap (λ (os : List MemoryLocal). map (λ (o : MemoryLocal). o.size) os) (of.objects ∙ m.objects);
        calls = subst (λ (bs : List (List TempInsn)). widest_call bs ≤ function_weight ds f) (sym of.blocks) m.widths.narrow;
      }

  -- ---- by number

  light-at : (fs : List TypedFn) (k : ℕ) (f : TypedFn) → slice_get fs k ≡ Some f → function_weight ds f ≤ sum_by (λ (f : TypedFn). 1 + function_weight ds f) fs
  light-at [] k f is = let clash : ⊥ = cc in absurd clash
  light-at (g ∷ fs) zero f is =
      let sum = sum_by-cons (λ (f : TypedFn). 1 + function_weight ds f) g fs in
      let same : function_weight ds g ≡ function_weight ds f = ap (function_weight ds) (same_Some g f is) in
      omega (arith, sum, same)
  light-at (g ∷ fs) (suc k) f is =
      let sum = sum_by-cons (λ (f : TypedFn). 1 + function_weight ds f) g fs in
      let rest = light-at fs k f is in
      omega (arith, sum, rest)

  little-at : (fs : List TypedFn) (k : ℕ) (f : TypedFn) → slice_get fs k ≡ Some f → locals_bytes ds f ≤ greatest_locals ds fs
  little-at [] k f is = let clash : ⊥ = cc in absurd clash
  little-at (g ∷ fs) zero f is =
      let same : locals_bytes ds g ≡ locals_bytes ds f = ap (locals_bytes ds) (same_Some g f is) in
      omega (arith, same)
  little-at (g ∷ fs) (suc k) f is = let rest = little-at fs k f is in omega (arith, rest)

  room-at : (fs : List TypedFn) (k : ℕ) (f : TypedFn) → slice_get fs k ≡ Some f → slice_index (map (room ds) fs) k ≡ room ds f
  room-at [] k f is = let clash : ⊥ = cc in absurd clash
  room-at (g ∷ fs) zero f is = ap (room ds) (same_Some g f is)
  room-at (g ∷ fs) (suc k) f is = room-at fs k f is

-- what stands at a number
record Stands {X : Type 0} (xs : List X) (k : ℕ) : Type 0 where
  one : X
  there : slice_get xs k ≡ Some one

stands : {X : Type 0} (xs : List X) (k : ℕ) → k < length xs → Stands xs k
stands [] k lt = absurd (omega (arith, lt))
stands (x ∷ xs) k lt = record { one = get_or (x ∷ xs) k x; there = slice_get-get_or (x ∷ xs) k x lt }

pub functions_have_frames : FunctionsHaveFrames
functions_have_frames u program m light little k d lt =
    let count = m.count in
    let f = stands u.functions k (omega (arith, count, lt)) in
    let is = f.there in
    let own = light-at u.structs u.functions k f.one is in
    let bytes = little-at u.structs u.functions k f.one is in
    frame-made u.structs f.one _ (m.functions k f.one _ is (slice_get-get_or program.functions k d lt))
    (omega (arith, own, light)) (omega (arith, bytes, little))

pub frames_fit_their_rooms : FramesFitTheirRooms
frames_fit_their_rooms u program allocations m h k a is =
    let p = planned_at allocations k a is in
    let g = allocations_stand_by_number program.functions allocations h k p.one p.there in
    let within = slice_get_within program.functions k g.function g.there in
    let count = m.count in
    let f = stands u.functions k (omega (arith, count, within)) in
    let fits = room-made u.structs f.one g.function p.one (m.functions k f.one g.function f.there g.there) g.is_allocation in
    let whole = subst (λ q. frame_size (shape_of q) + scratch_size ≤ room u.structs f.one) p.is fits in
    subst (λ n. frame_size (shape_of a) + scratch_size ≤ n) (sym (room-at u.structs u.functions k f.one f.there)) whole
