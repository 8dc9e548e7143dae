use Rattle.std.proofs.Common.{◌≡◌, ◌+◌, ◌++◌, ◌∷◌, [], ◌∙◌, length, get_or, ap, arith, length-append}
use Rattle.pass_core.specs.declared.function.MemoryLocal.{MemoryLocal}
use Rattle.frame_layout.proofs.Objects.{any_default, object_small, end_next, places_next}
use Rattle.frame_layout.proofs.shape.object_places.Goals as goal

pub next_place-end-requires : goal.next_place-end-requires
next_place-end-requires c =
    let xs = c.args.objects.now in
    let i = c.loop-object.object-index in
    let d : MemoryLocal = record { size = 0; align = 0 } in
    let x = get_or xs i d in
    let h = object_small xs i c.args.start c.loop-object.end x c.loop-object-test.true (any_default xs i d x c.loop-object-test.true)
    c.loop-object.invariant.1 c.requires.size c.requires.start in
    omega (arith, h.0)

pub overflow_add-end : goal.overflow_add-end
overflow_add-end c =
    let xs = c.args.objects.now in
    let i = c.loop-object.object-index in
    let d : MemoryLocal = record { size = 0; align = 0 } in
    let x = get_or xs i d in
    let h = object_small xs i c.args.start c.loop-object.end x c.loop-object-test.true (any_default xs i d x c.loop-object-test.true)
    c.loop-object.invariant.1 c.requires.size c.requires.start in
    omega (arith, h.1, c.next_place-end.ensures)

pub loop-object-preserved : goal.loop-object-preserved
loop-object-preserved c =
    let xs = c.args.objects.now in
    let i = c.loop-object.object-index in
    let d : MemoryLocal = record { size = 0; align = 0 } in
    let x = get_or xs i d in
    let is = any_default xs i d x c.loop-object-test.true in
    let one : i + 1 ≡ i + 1 = omega arith in
    let ps = c.loop-object.places.items in
    let end = c.loop-object.end in
    let pushed = c.in_ok-push.ensures.items in
    let size = ap length pushed in
    let both = length-append ps (end ∷ []) in (
      omega (arith, size, both, c.loop-object.invariant.0),
      ap (λ n. end + n) c.next_place-end.ensures
          ∙ end_next xs i (i + 1) c.args.start end x one c.loop-object-test.true is c.loop-object.invariant.1,
      λ k.
          ap (λ v. get_or v k (end + c.next_place-end.result)) pushed
          ∙ ap (λ n. get_or (ps ++ end ∷ []) k (end + n)) c.next_place-end.ensures
          ∙ places_next xs i (i + 1) c.args.start end x ps one c.loop-object-test.true is c.loop-object.invariant.0 c.loop-object.invariant.2 k,
    )
