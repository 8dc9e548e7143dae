-- What keeps the frames of calls that wait.
use Rattle.std.proofs.Common.{◌≡◌, ◌≢◌, ℕ, suc, ◌+◌, ◌-◌, ◌*◌, ◌/◌, ◌<◌, ◌≤◌, Bool, true, false, List, [], ◌∷◌, length, refl, sym, ap, ◌∙◌, subst, arith}
use Rattle.std.specs.Prelude.{◌==◌, ◌&&◌, nat_lt, if◌then◌else◌}
use Rattle.std.proofs.lemmas.Bool.{ne_eqb}
use Rattle.alpha_isa.specs.Program.{Program}
use Rattle.alpha_isa.specs.State.{State, register}
use Rattle.frame_steps.specs.item_steps.Standing.{Labels}
use Rattle.mem_model.specs.declared.value.Value.TheVariants.{Word, Address, Unset}
use Rattle.alloc_model.specs.Contents as contents
use Rattle.alloc_model.specs.Contents.{Content, Bundle}
use Rattle.alloc_model.specs.Places.{Places, Reg, In, Slot, Out}
use Rattle.mem_objects.specs.Layout.{place_after}
use Rattle.frame_memory.specs.Bytes.{Bytes, number_from}
use Rattle.frame_memory.specs.Relation.{Extents, Owner, Owners, OfObject, OfFrame, Nobody, FramePiece, SlotPiece, ReturnPiece, SavedPiece, ArgumentPiece, NoPiece}
use Rattle.frame_memory.specs.Machine.{memory_bytes}
use Rattle.frame_memory.specs.Laws.{MoreExtents}
use Rattle.frame_memory.proofs.Numbers.{bytes_from-same}
use Rattle.frame_memory.specs.flat_operations.Contents.{ContentIs}
use Rattle.frame_memory.proofs.FlatOperations.Operations.{contents_stay}
use Rattle.frame_memory.specs.flat_frames.Shapes.{FrameShape, frame_size, return_at, saved_at, slot_at, argument_at, objects_at, frame_object_at, object_owner, owner_at, IsPiece}
use Rattle.frame_memory.specs.flat_frames.Frames.{word_in, FrameIs, is_written_piece, is_written}
use Rattle.frame_memory.proofs.FlatFrames.Shapes.{pieces_of}
use Rattle.frame_steps.specs.frame_transfers.Laws.{CallAt, IsKept}
use Rattle.frame_steps.specs.instruction_items.Laws.{IsHeldArgument, ArgumentIs}
use Rattle.frame_simulation.specs.call_stacks.Stacks.{WaitingCall, call_frame, view_above, Start, CallersAre, StackIs, KeepsCallers}

-- ---- owners

frame-somebody : (depth : ℕ) (piece : FramePiece) → OfFrame depth piece ≢ Nobody
frame-somebody depth piece e = cc

object-somebody : (o : ℕ) → OfObject o ≢ Nobody
object-somebody o e = cc

-- pieces of frames that are farther up are not written
above-unwritten : (depth other : ℕ) (piece : FramePiece) → other < depth → is_written depth (OfFrame other piece) ≡ false
above-unwritten depth other piece lt = ap (λ b. b && is_written_piece piece) (ne_eqb other depth (λ e. omega (arith, e, lt)))

-- the return address and the saved registers of no frame are written
never-written : (b : Bool) → (b && false) ≡ false
never-written true = refl
never-written false = refl

-- no byte of a frame is nobody's
either : (b : Bool) (x y : Owner) → x ≢ Nobody → y ≢ Nobody → (if b then x else y) ≢ Nobody
either true x y f g = f
either false x y f g = g

object-owned : (depth number : ℕ) (sizes : List ℕ) (i : ℕ) → object_owner depth number sizes i ≢ Nobody
object-owned depth number [] i = frame-somebody depth NoPiece
object-owned depth number (n ∷ sizes) i =
    either (nat_lt i n) (OfObject number) (if nat_lt i (place_after n) then OfFrame depth NoPiece else object_owner depth (suc number) sizes (i - place_after n)) (object-somebody number)
    (either (nat_lt i (place_after n)) (OfFrame depth NoPiece) (object_owner depth (suc number) sizes (i - place_after n)) (frame-somebody depth NoPiece) (object-owned depth (suc number) sizes (i - place_after n)))

pub frame-owned : (s : FrameShape) (depth own i : ℕ) → owner_at s depth own i ≢ Nobody
frame-owned s depth own i =
    either (nat_lt i (8 * s.outgoing)) (OfFrame depth (ArgumentPiece (i / 8))) _ (frame-somebody depth (ArgumentPiece (i / 8)))
    (either (nat_lt i (8 * s.outgoing + 8)) (OfFrame depth ReturnPiece) _ (frame-somebody depth ReturnPiece)
    (either (nat_lt i (8 * s.outgoing + 64)) (OfFrame depth (SavedPiece (9 + (i - (8 * s.outgoing + 8)) / 8))) _ (frame-somebody depth (SavedPiece (9 + (i - (8 * s.outgoing + 8)) / 8)))
    (either (nat_lt i (objects_at s)) (OfFrame depth (SlotPiece ((i - (8 * s.outgoing + 64)) / 8))) _ (frame-somebody depth (SlotPiece ((i - (8 * s.outgoing + 64)) / 8)))
    (object-owned depth own s.sizes (i - objects_at s)))))

module _ (xs ys : Extents) (owner new : Owners) (m k : Bytes) (depth bound : ℕ) (more : MoreExtents xs ys) (keeps : KeepsCallers depth bound owner new m k) where
  -- a word whose bytes have one owner
  word-stays : (a : ℕ) (whose : Owner) → bound ≤ a → whose ≢ Nobody → is_written depth whose ≡ false → ((i : ℕ) → i < 8 → owner (a + i) ≡ whose) → word_in k a ≡ word_in m a
  word-stays a whose le ne unwritten own = ap number_from (bytes_from-same m k a 8 (λ y from to.
      let e : a + (y - a) ≡ y = omega (arith, from) in
      let is : owner y ≡ whose = ap owner (sym e) ∙ own (y - a) (omega (arith, from, to)) in
      keeps.bytes y (omega (arith, le, from)) (λ f. ne (sym is ∙ f)) (ap (is_written depth) is ∙ unwritten)))

  -- a piece of a frame
  piece-stays : (sp d own : ℕ) (s : FrameShape) (store : Places) → bound ≤ sp → FrameIs xs owner m sp d own s store → (at : ℕ) (piece : FramePiece) → IsPiece s d own at 8 (OfFrame d piece) → is_written depth (OfFrame d piece) ≡ false → word_in k (sp + at) ≡ word_in m (sp + at)
  piece-stays sp d own s store le f at piece is unwritten = word-stays (sp + at) (OfFrame d piece) (omega (arith, le)) (frame-somebody d piece) unwritten (λ i lt.
      let e : sp + at + i ≡ sp + (at + i) = omega arith in
      let w = is.within in
      ap owner e ∙ f.owned (at + i) (omega (arith, lt, w)) ∙ is.owned i lt)

  return-stays : (sp d own : ℕ) (s : FrameShape) (store : Places) → bound ≤ sp → FrameIs xs owner m sp d own s store → word_in k (sp + return_at s) ≡ word_in m (sp + return_at s)
  return-stays sp d own s store le f = piece-stays sp d own s store le f (return_at s) ReturnPiece (pieces_of s d own).returns (never-written (d == depth))

  pub saved-stays : (sp d own : ℕ) (s : FrameShape) (store : Places) → bound ≤ sp → FrameIs xs owner m sp d own s store → (r : ℕ) → 9 ≤ r → r < 16 → word_in k (sp + saved_at s r) ≡ word_in m (sp + saved_at s r)
  saved-stays sp d own s store le f r from to = piece-stays sp d own s store le f (saved_at s r) (SavedPiece r) ((pieces_of s d own).saved r from to) (never-written (d == depth))

  pub frame-stays : (sp d own : ℕ) (s : FrameShape) (store : Places) → d < depth → bound ≤ sp → FrameIs xs owner m sp d own s store → FrameIs ys new k sp d own s store
  frame-stays sp d own s store lt le f = record {
    aligned = f.aligned;
    slots = λ t tl. contents_stay xs ys (store (Slot t)) (word_in k (sp + slot_at s t)) more
        (subst (ContentIs xs (store (Slot t))) (sym (piece-stays sp d own s store le f (slot_at s t) (SlotPiece t) ((pieces_of s d own).slots t tl) (above-unwritten depth d (SlotPiece t) lt))) (f.slots t tl));
    outgoing = λ j jl. contents_stay xs ys (store (Out j)) (word_in k (sp + argument_at j)) more
        (subst (ContentIs xs (store (Out j))) (sym (piece-stays sp d own s store le f (argument_at j) (ArgumentPiece j) ((pieces_of s d own).arguments j jl) (above-unwritten depth d (ArgumentPiece j) lt))) (f.outgoing j jl));
    owned = λ i il. keeps.owners (sp + i) (omega (arith, le)) (λ e. frame-owned s d own i (sym (f.owned i il) ∙ e)) ∙ f.owned i il;
    objects = λ j n e. more (own + j) (record { base = sp + frame_object_at s j; size = n }) (f.objects j n e);
  }

  -- arguments of a call, which its caller owns
  held-stays : (c : CallAt) (j : ℕ) (content : Content) → c.depth ≤ depth → bound ≤ c.sp → IsHeldArgument (record c { extents = xs; owner = owner }) j content m → IsHeldArgument (record c { extents = ys; owner = new }) j content k
  held-stays c j content le low h =
      let a = c.sp + (frame_size c.shape + argument_at j) in
      let up = h.above in
      let same = word-stays a (OfFrame h.caller (ArgumentPiece j)) (omega (arith, low)) (frame-somebody h.caller (ArgumentPiece j)) (above-unwritten depth h.caller (ArgumentPiece j) (omega (arith, up, le))) h.owned in
      record {
        caller = h.caller;
        above = h.above;
        owned = λ i lt. keeps.owners (a + i) (omega (arith, low)) (λ e. frame-somebody h.caller (ArgumentPiece j) (sym (h.owned i lt) ∙ e)) ∙ h.owned i lt;
        small = h.small;
        near = h.near;
        is = contents_stay xs ys content (word_in k a) more (subst (ContentIs xs content) (sym same) h.is);
      }

  pub argument-stays : (c : CallAt) (j : ℕ) (content : Content) → c.depth ≤ depth → bound ≤ c.sp → ArgumentIs (record c { extents = xs; owner = owner }) j content m → ArgumentIs (record c { extents = ys; owner = new }) j content k
  argument-stays c j (contents.Plain (Word n)) le low h = held-stays c j (contents.Plain (Word n)) le low h
  argument-stays c j (contents.Plain (Address q)) le low h = held-stays c j (contents.Plain (Address q)) le low h
  argument-stays c j (contents.Plain Unset) le low h = tt
  argument-stays c j (Bundle cells) le low h = held-stays c j (Bundle cells) le low h

pub callers_stay : (p : Program) (there : Labels) (start : Start) (xs ys : Extents) (owner new : Owners) (m k : Bytes) (depth bound : ℕ) → MoreExtents xs ys → KeepsCallers depth bound owner new m k → (gs : List WaitingCall) (u v : ℕ → ℕ) (sp own : ℕ) (s : FrameShape) (store : Places) → length gs ≤ depth → bound ≤ sp → FrameIs xs owner m sp (length gs) own s store → ((r : ℕ) → 9 ≤ r → r < 16 → v r ≡ u r) → CallersAre p there start xs owner m u sp s gs → CallersAre p there start ys new k v sp s gs
callers_stay p there start xs ys owner new m k depth bound more keeps [] u v sp own s store le low f same a =
    let back = return-stays xs ys owner new m k depth bound more keeps sp 0 own s store low f in
    (a.0, record { place = a.1.place; is = back ∙ a.1.is; items_at = a.1.items_at })
callers_stay p there start xs ys owner new m k depth bound more keeps (g ∷ gs) u v sp own s store le low f same a =
    let back = return-stays xs ys owner new m k depth bound more keeps sp (length (g ∷ gs)) own s store low f in
    let up = sp + frame_size s in
    let less : length gs < depth = omega (arith, le) in
    let high : bound ≤ sp + frame_size s = omega (arith, low) in (
      record { is = back ∙ a.0.is; items_at = a.0.items_at },
      (λ r from to. subst (ContentIs ys (g.held (Reg r))) (sym (same r from to)) (contents_stay xs ys (g.held (Reg r)) (u r) more (a.1 r from to))),
      record {
        frame = frame-stays xs ys owner new m k depth bound more keeps up (length gs) g.own g.shape g.held less high a.2.frame;
        arguments = λ j. argument-stays xs ys owner new m k depth bound more keeps (call_frame xs owner up (length gs) g) j (g.held (In j)) (omega (arith, less)) high (a.2.arguments j);
      },
      callers_stay p there start xs ys owner new m k depth bound more keeps gs (view_above m up g.shape u) (view_above k up g.shape v) up g.own g.shape g.held (omega (arith, less)) high a.2.frame
          (λ r from to.
          ap (λ w. if g.shape.saves r then w else v r) (saved-stays xs ys owner new m k depth bound more keeps up (length gs) g.own g.shape g.held high a.2.frame r from to)
          ∙ ap (λ w. if g.shape.saves r then word_in m (up + saved_at g.shape r) else w) (same r from to))
          a.3,
    )

pub stacks_stay : (p : Program) (there : Labels) (start : Start) (c : CallAt) (gs : List WaitingCall) (held new : Places) (s t : State) → StackIs p there start c gs held s → FrameIs c.extents c.owner (memory_bytes p s) c.sp c.depth c.own c.shape held → ((k : ℕ) → new (In k) ≡ held (In k)) → IsKept p c s t → StackIs p there start c gs new t
stacks_stay p there start c gs held new s t h frame ins kept =
    let m = memory_bytes p s in
    let k = memory_bytes p t in
    let deep = h.depth in
    record {
      depth = h.depth;
      callers_are = callers_stay p there start c.extents c.extents c.owner c.owner m k c.depth 0 more keeps gs (view_above m c.sp c.shape (register s)) (view_above k c.sp c.shape (register t)) c.sp c.own c.shape held (omega (arith, deep)) (omega arith) lower (λ r from to. seen r from to (c.shape.saves r) refl) h.callers_are;
      arguments = λ j. subst (λ z. ArgumentIs c j z k) (sym (ins j)) (argument-stays c.extents c.extents c.owner c.owner m k c.depth 0 more keeps c j (held (In j)) (omega arith) (omega arith) (h.arguments j));
      free = h.free;
      reached = λ y from to. kept.reach y ∙ h.reached y from to;
    }
  where
    more : MoreExtents c.extents c.extents
    more o e f = f

    keeps : KeepsCallers c.depth 0 c.owner c.owner (memory_bytes p s) (memory_bytes p t)
    keeps = record { owners = λ y le ne. refl; bytes = λ y le ne e. kept.bytes y e }

    lower : FrameIs c.extents c.owner (memory_bytes p s) c.sp (length gs) c.own c.shape held
    lower = subst (λ d. FrameIs c.extents c.owner (memory_bytes p s) c.sp d c.own c.shape held) h.depth frame

    seen : (r : ℕ) → 9 ≤ r → r < 16 → (b : Bool) → c.shape.saves r ≡ b → (if b then word_in (memory_bytes p t) (c.sp + saved_at c.shape r) else register t r) ≡ (if b then word_in (memory_bytes p s) (c.sp + saved_at c.shape r) else register s r)
    seen r from to true e = saved-stays c.extents c.extents c.owner c.owner (memory_bytes p s) (memory_bytes p t) c.depth 0 more keeps c.sp (length gs) c.own c.shape held (omega arith) lower r from to
    seen r from to false e = kept.registers r from to e
