-- The bytes of a frame against those of a room.
use Rattle.std.proofs.Common.{◌≡◌, ℕ, ◌+◌, ◌-◌, ◌*◌, ◌/◌, ◌≤◌, List, [], ◌∷◌, map, Bool, true, false, cond, refl, sym, ap, ◌∙◌, arith}
use Rattle.std.specs.Prelude.{sum_by, if◌then◌else◌}
use Rattle.std.proofs.lemmas.List.Sums.{sum_by-cons}
use Rattle.c_typed_tree.specs.declared.types.StructDef.{StructDef}
use Rattle.c_typed_tree.specs.declared.units.Local.{Local}
use Rattle.c_typed_tree.specs.View.{type_view}
use Rattle.c_typed_tree.specs.Layout.{size_of, aligned_up}
use Rattle.c_typed_tree.specs.Weight.{function_weight}
use Rattle.c_typed_tree.specs.Rooms.{local_bytes, locals_bytes}
use Rattle.alloc_model.specs.Effect.{widest_call}
use Rattle.frame_memory.specs.flat_frames.Shapes.{objects_size, frame_size}
use Rattle.frame_simulation.specs.function_shapes.Shapes.{shape_of}
use Rattle.lowering_code.specs.Functions.{objects_of}
use Rattle.image_code_bounds.specs.frame_rooms.Laws.{FramesFitRooms}

abbrev sizes_of : List StructDef → List Local → List ℕ
sizes_of ds ls = map (λ o. o.size) (objects_of ds ls)

sizes_more : (ds : List StructDef) (l : Local) (ls : List Local) (b : Bool) → l.in_memory ≡ b → sizes_of ds (l ∷ ls) ≡ cond b (size_of ds (type_view l.ty) ∷ sizes_of ds ls) (sizes_of ds ls)
sizes_more ds l ls true e = rw e refl
sizes_more ds l ls false e = rw e refl

bytes_are : (ds : List StructDef) (l : Local) (b : Bool) → l.in_memory ≡ b → local_bytes ds l ≡ (if b then aligned_up 8 (size_of ds (type_view l.ty)) else 0)
bytes_are ds l b e = ap (λ z. if z then aligned_up 8 (size_of ds (type_view l.ty)) else 0) e

-- the objects of a function take the bytes of its locals
pub objects_are : (ds : List StructDef) (ls : List Local) → objects_size (sizes_of ds ls) ≡ sum_by (local_bytes ds) ls
objects_are ds [] = refl
objects_are ds (l ∷ ls) = by l.in_memory refl (objects_are ds ls)
  where
    by : (b : Bool) → l.in_memory ≡ b → objects_size (sizes_of ds ls) ≡ sum_by (local_bytes ds) ls → objects_size (sizes_of ds (l ∷ ls)) ≡ sum_by (local_bytes ds) (l ∷ ls)
    by true e h =
        let sum = sum_by-cons (local_bytes ds) l ls in
        let one = bytes_are ds l true e in
        ap objects_size (sizes_more ds l ls true e) ∙ ap (λ z. aligned_up 8 (size_of ds (type_view l.ty)) + z) h ∙ ap (λ z. z + sum_by (local_bytes ds) ls) (sym one) ∙ sym sum
    by false e h =
        let sum = sum_by-cons (local_bytes ds) l ls in
        let one = bytes_are ds l false e in
        ap objects_size (sizes_more ds l ls false e) ∙ omega (arith, h, sum, one)

whole_least : (n : ℕ) → n / 16 * 16 ≤ n
whole_least n = omega arith

fits : (frame objects temps registers wide weight : ℕ) → frame ≤ 8 * (wide - 6) + 64 + 8 * temps + objects + 15 → temps ≤ registers + 4 → registers ≤ 7 * weight → wide ≤ weight → frame + 32 ≤ 256 + 64 * weight + objects
fits frame objects temps registers wide weight most four few narrow = omega (arith, most, four, few, narrow)

pub frames_fit_rooms : FramesFitRooms
frames_fit_rooms ds f g a p =
    let objects : objects_size a.function.sizes ≡ locals_bytes ds f = ap objects_size (p.sizes ∙ ap (λ os. map (λ o. o.size) os) p.stands.objects) ∙ objects_are ds f.locals in
    let wide : ℕ = widest_call a.function.blocks in
    let most : frame_size (shape_of a) ≤ 8 * (wide - 6) + 64 + 8 * a.temps + objects_size a.function.sizes + 15 = whole_least (8 * (wide - 6) + 64 + 8 * a.temps + objects_size a.function.sizes + 15) in
    let fit = fits (frame_size (shape_of a)) (objects_size a.function.sizes) a.temps g.temps wide (function_weight ds f) most p.temps p.stands.within.registers p.calls in
    omega (arith, fit, objects)
