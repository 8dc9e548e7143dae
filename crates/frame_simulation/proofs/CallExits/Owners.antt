-- Whose the bytes are once a frame is left, and which registers a call ends.
use Rattle.std.proofs.Common.{◌≡◌, ℕ, zero, suc, ◌+◌, ◌-◌, ◌*◌, ◌/◌, ◌<◌, ◌≤◌, ◌⊎◌, Bool, true, false, List, [], ◌∷◌, length, refl, sym, ap, ◌∙◌, arith, inl, inr, ⊎_elim}
use Rattle.std.specs.Prelude.{nat_lt, if◌then◌else◌}
use Rattle.std.proofs.lemmas.Bool.{cases_lt, lt-ltb, le-ltb, cond-true, cond-false}
use Rattle.mem_objects.specs.Layout.{place_after}
use Rattle.mem_model.specs.Memory.{Memory, Object, object_at, no_object, end_objects}
use Rattle.mem_model.specs.Laws.{EndsChange}
use Rattle.mem_model.proofs.Objects.{ends_change}
use Rattle.temp_ir.specs.Fixed.{ended_by_calls, has_number}
use Rattle.frame_memory.specs.Relation.{Owner, OfObject, OfFrame, Nobody, FramePiece, SlotPiece, ReturnPiece, SavedPiece, ArgumentPiece, NoPiece}
use Rattle.frame_memory.specs.flat_frames.Shapes.{FrameShape, frame_size, objects_at, object_owner, owner_at}
use Rattle.frame_steps.specs.frame_transfers.Laws.{CallAt}
use Rattle.frame_simulation.specs.call_exits.Leaving.{left_owner}

-- ---- the objects of a frame

if-object : (b : Bool) (x y : Owner) (k : ℕ) → (if b then x else y) ≡ OfObject k → (x ≡ OfObject k) ⊎ (y ≡ OfObject k)
if-object true x y k e = inl e
if-object false x y k e = inr e

frame-or : {A : Type 0} (depth : ℕ) (piece : FramePiece) (k : ℕ) → OfFrame depth piece ≡ OfObject k → A
frame-or depth piece k e = absurd (cc)

-- an object of a frame is one of its call
pub record IsOwn (own count k : ℕ) : Type 0 where
  pub from : own ≤ k
  pub to : k < own + count

object-own : (depth number : ℕ) (sizes : List ℕ) (i k : ℕ) → object_owner depth number sizes i ≡ OfObject k → IsOwn number (length sizes) k
object-own depth number [] i k e = frame-or depth NoPiece k e
object-own depth number (n ∷ sizes) i k e = ⊎_elim
    (λ here. let is : number ≡ k = cc in record { from = omega (arith, is); to = omega (arith, is) })
    (λ other. ⊎_elim
    (λ none. frame-or depth NoPiece k none)
    (λ later. let h = object-own depth (suc number) sizes (i - place_after n) k later in let f = h.from in let t = h.to in record { from = omega (arith, f); to = omega (arith, t) })
    (if-object (nat_lt i (place_after n)) (OfFrame depth NoPiece) (object_owner depth (suc number) sizes (i - place_after n)) k other))
    (if-object (nat_lt i n) (OfObject number) (if nat_lt i (place_after n) then OfFrame depth NoPiece else object_owner depth (suc number) sizes (i - place_after n)) k e)

pub frame-own : (s : FrameShape) (depth own i k : ℕ) → owner_at s depth own i ≡ OfObject k → IsOwn own (length s.sizes) k
frame-own s depth own i k e = ⊎_elim
    (λ f. frame-or depth (ArgumentPiece (i / 8)) k f)
    (λ e. ⊎_elim
    (λ f. frame-or depth ReturnPiece k f)
    (λ e. ⊎_elim
    (λ f. frame-or depth (SavedPiece (9 + (i - (8 * s.outgoing + 8)) / 8)) k f)
    (λ e. ⊎_elim
    (λ f. frame-or depth (SlotPiece ((i - (8 * s.outgoing + 64)) / 8)) k f)
    (λ e. object-own depth own s.sizes (i - objects_at s) k e)
    (if-object (nat_lt i (objects_at s)) _ _ k e))
    (if-object (nat_lt i (8 * s.outgoing + 64)) _ _ k e))
    (if-object (nat_lt i (8 * s.outgoing + 8)) _ _ k e))
    (if-object (nat_lt i (8 * s.outgoing)) _ _ k e)

-- which has ended
pub own-ended : (memory : Memory) (own count k : ℕ) → IsOwn own count k → (object_at (end_objects memory own count) k).live ≡ true → ⊥
own-ended memory own count k is live =
    let changes : EndsChange memory own count = ends_change memory own count in
    let f = is.from in
    let t = is.to in
    let e : own + (k - own) ≡ k = omega (arith, f) in
    let none : object_at (end_objects memory own count) k ≡ no_object = ap (object_at (end_objects memory own count)) (sym e) ∙ changes.here (k - own) (omega (arith, f, t)) in
    clash (sym (ap (λ (z : Object). z.live) none) ∙ live)
  where
    clash : false ≡ true → ⊥
    clash e = cc

-- ---- owners

pub left-below : (c : CallAt) (y : ℕ) → y < c.sp → left_owner c y ≡ c.owner y
left-below c y lt = cond-true (nat_lt y c.sp) _ _ (lt-ltb y c.sp lt)

pub left-in : (c : CallAt) (y : ℕ) → c.sp ≤ y → y < c.sp + frame_size c.shape → left_owner c y ≡ Nobody
left-in c y from to =
    cond-false (nat_lt y c.sp) _ _ (le-ltb y c.sp from)
    ∙ cond-true (nat_lt y (c.sp + frame_size c.shape)) _ _ (lt-ltb y (c.sp + frame_size c.shape) to)

pub left-above : (c : CallAt) (y : ℕ) → c.sp + frame_size c.shape ≤ y → left_owner c y ≡ c.owner y
left-above c y le =
    cond-false (nat_lt y c.sp) _ _ (le-ltb y c.sp (omega (arith, le)))
    ∙ cond-false (nat_lt y (c.sp + frame_size c.shape)) _ _ (le-ltb y (c.sp + frame_size c.shape) le)

-- ---- registers that a call ends

low-ended : (r : ℕ) → r < 9 → has_number ended_by_calls r ≡ true
low-ended zero lt = refl
low-ended (suc zero) lt = refl
low-ended (suc (suc zero)) lt = refl
low-ended (suc (suc (suc zero))) lt = refl
low-ended (suc (suc (suc (suc zero)))) lt = refl
low-ended (suc (suc (suc (suc (suc zero))))) lt = refl
low-ended (suc (suc (suc (suc (suc (suc zero)))))) lt = refl
low-ended (suc (suc (suc (suc (suc (suc (suc zero))))))) lt = refl
low-ended (suc (suc (suc (suc (suc (suc (suc (suc zero)))))))) lt = refl
low-ended (suc (suc (suc (suc (suc (suc (suc (suc (suc r))))))))) lt = absurd (omega (arith, lt))

high-ended : (k : ℕ) → k < 12 → has_number ended_by_calls (16 + k) ≡ true
high-ended zero lt = refl
high-ended (suc zero) lt = refl
high-ended (suc (suc zero)) lt = refl
high-ended (suc (suc (suc zero))) lt = refl
high-ended (suc (suc (suc (suc zero)))) lt = refl
high-ended (suc (suc (suc (suc (suc zero))))) lt = refl
high-ended (suc (suc (suc (suc (suc (suc zero)))))) lt = refl
high-ended (suc (suc (suc (suc (suc (suc (suc zero))))))) lt = refl
high-ended (suc (suc (suc (suc (suc (suc (suc (suc zero)))))))) lt = refl
high-ended (suc (suc (suc (suc (suc (suc (suc (suc (suc zero))))))))) lt = refl
high-ended (suc (suc (suc (suc (suc (suc (suc (suc (suc (suc zero)))))))))) lt = refl
high-ended (suc (suc (suc (suc (suc (suc (suc (suc (suc (suc (suc zero))))))))))) lt = refl
high-ended (suc (suc (suc (suc (suc (suc (suc (suc (suc (suc (suc (suc k)))))))))))) lt = absurd (omega (arith, lt))

-- one that is not ended is one that the called function keeps
pub not-ended : (r : ℕ) → r < 28 → has_number ended_by_calls r ≡ false → (9 ≤ r) × (r < 16)
not-ended r lt e = ⊎_elim
    (λ low. absurd (clash (sym (low-ended r low) ∙ e)))
    (λ from. ⊎_elim
    (λ to. (from, to))
    (λ high.
    let f : 16 + (r - 16) ≡ r = omega (arith, high) in
    absurd (clash (sym (high-ended (r - 16) (omega (arith, lt, high))) ∙ ap (has_number ended_by_calls) f ∙ e)))
    (cases_lt r 16))
    (cases_lt r 9)
  where
    clash : true ≡ false → ⊥
    clash f = cc
