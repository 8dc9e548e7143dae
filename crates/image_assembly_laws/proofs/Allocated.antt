-- The program is allocated.
use Rattle.std.proofs.Common.{◌≡◌, ℕ, ◌<◌, ◌^◌, List, [], ◌∷◌, Some, length, map, refl, sym, ap, ◌∙◌, subst, arith}
use Rattle.std.specs.Prelude.{All, slice_get}
use Rattle.std.proofs.lemmas.Option.{slice_get_within, get_or_from_slice_get}
use Rattle.mem_objects.specs.declared.DataObject.{DataObject}
use Rattle.alloc_model.specs.declared.allocation.Allocation.{Allocation}
use Rattle.alloc_model.specs.Temporaries.{code_of}
use Rattle.alloc_model.specs.Places.{plan_of, functions_of}
use Rattle.alloc_model.specs.Faithful.{Faithful}
use Rattle.frame_memory.specs.flat_frames.Shapes.{frame_size}
use Rattle.frame_bounds.specs.Shapes.{shape_of}
use Rattle.frame_bounds.proofs.Rooms.{is_few}
use Rattle.image_assembly.specs.Programs.{plans_of}
use Rattle.image_assembly.specs.Layouts.{FitsProgram}
use Rattle.image_assembly_laws.specs.Laws.{ProgramsAreAllocated}
use Rattle.image_assembly_laws.proofs.Placed.{planned_at}

functions-are : (allocations : List Allocation) → functions_of (plans_of allocations) ≡ map (λ (a : Allocation). code_of a.func) allocations
functions-are [] = refl
functions-are (a ∷ allocations) = ap (λ fs. code_of a.func ∷ fs) (functions-are allocations)

all-get : {X : Type 0} (Q : X → Type 0) (xs : List X) (j : ℕ) (y : X) → All Q xs → slice_get xs j ≡ Some y → Q y
all-get Q xs j y all is = subst Q (get_or_from_slice_get xs j y y is) (all j y (slice_get_within xs j y is))

frame-small : (functions : ℕ) (globals : List DataObject) (a : Allocation) → FitsProgram functions globals a → frame_size (shape_of (plan_of a)) < 2 ^ 29
frame-small functions globals a fit =
    let few = is_few (plan_of a) in
    let temps = fit.temps in
    let arguments = fit.arguments in
    let objects = fit.objects in
    omega (arith, few, temps, arguments, objects)

pub programs-allocated : ProgramsAreAllocated
programs-allocated program allocations rooms code fits split room =
    record {
      functions = code ∙ sym (functions-are allocations);
      faithful = record { each = λ f a e. let p = planned_at allocations f a e in subst Faithful p.is (all-get (FitsProgram (length allocations) program.globals) allocations f p.one fits p.there).faithful };
      split = split;
      frames = λ f a e. let p = planned_at allocations f a e in subst (λ q. frame_size (shape_of q) < 2 ^ 29) p.is (frame-small (length allocations) program.globals p.one (all-get (FitsProgram (length allocations) program.globals) allocations f p.one fits p.there));
      room = room;
    }
