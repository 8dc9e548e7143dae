-- A call is entered.
use Rattle.std.proofs.Common.{◌≡◌, ◌≢◌, ℕ, suc, ◌+◌, ◌-◌, ◌<◌, ◌≤◌, ◌⊎◌, Bool, true, false, List, [], ◌∷◌, length, Some, refl, sym, ap, ◌∙◌, subst, arith, inl, inr, ⊎_elim}
use Rattle.std.specs.Prelude.{nat_lt, slice_get, ◌||◌, ◌==◌, if◌then◌else◌}
use Rattle.std.proofs.lemmas.Bool.{cases_lt, or_cases, eqb-true, ltb-true, lt-ltb, le-ltb, cond-true, cond-false}
use Rattle.alpha_isa.specs.declared.insn.BranchOp.TheVariants.{Bsr}
use Rattle.alpha_isa.specs.Program.{Program, stack_start, word_address}
use Rattle.alpha_isa.specs.State.{State, register}
use Rattle.alpha_items.specs.declared.item.AsmItem.{AsmItem}
use Rattle.alpha_items.specs.declared.item.AsmItem.TheVariants.{Branch}
use Rattle.frame_steps.specs.item_steps.Standing.{Labels, ItemsAt}
use Rattle.frame_steps.specs.item_steps.Steps.{Leaves}
use Rattle.frame_steps.proofs.ItemSteps.Steps.{branches_step, read-same, read-other}
use Rattle.mem_model.specs.declared.value.Value.TheVariants.{Word, Address, Unset}
use Rattle.mem_model.specs.Memory.{begin_objects}
use Rattle.mem_model.specs.World.{Outer}
use Rattle.machine_model.specs.Machine.{begin_locals}
use Rattle.alloc_model.specs.Contents as contents
use Rattle.alloc_model.specs.Contents.{Content, Bundle, unset_content}
use Rattle.alloc_model.specs.Places as places
use Rattle.alloc_model.specs.Places.{Places, Reg, Slot, In, Out}
use Rattle.frame_memory.specs.Bytes.{Bytes}
use Rattle.frame_memory.specs.Relation.{Extent, Extents, IsExtent, Owners, OfObject, Nobody, MemoryIs}
use Rattle.frame_memory.specs.Machine.{memory_bytes, is_reached}
use Rattle.frame_memory.specs.Laws.{MoreExtents, AreNew}
use Rattle.frame_memory.proofs.Objects.{extents_grow, others_may_change, objects_begin}
use Rattle.frame_memory.specs.flat_operations.Contents.{ContentIs}
use Rattle.frame_memory.proofs.FlatOperations.Operations.{contents_stay}
use Rattle.frame_memory.specs.flat_frames.Shapes.{FrameShape, frame_size, objects_at, frame_object_at, bytes_before, saved_at, slot_at, argument_at, owner_at}
use Rattle.frame_memory.specs.flat_frames.Frames.{word_in, FrameIs}
use Rattle.frame_memory.proofs.FlatFrames.Shapes.{pieces_of, frames_are_small}
use Rattle.frame_memory.proofs.FlatFrames.Frames.{argument-word}
use Rattle.frame_steps.specs.frame_accesses.Laws.{IsAt}
use Rattle.frame_steps.proofs.FrameAccesses.Runs.{stands, bytes-same, reached-same, parts-same}
use Rattle.frame_steps.specs.frame_transfers.Laws.{CallAt, FitsTheStack, StandsFor}
use Rattle.frame_steps.specs.call_parts.Items.{entry_part}
use Rattle.frame_steps.specs.call_parts.Laws.{IsFrameAt, EntryDone}
use Rattle.frame_steps.proofs.CallParts.Entries.{entries_are_done}
use Rattle.frame_simulation.specs.call_stacks.InstructionItemsLaws.{is_usable, IsHeldArgument, ArgumentIs, HasOuter}
use Rattle.frame_simulation.specs.call_stacks.Stacks.{WaitingCall, view_above, WaitsAt, Start, CallersAre, StackIs, KeepsCallers}
use Rattle.frame_simulation.proofs.CallStacks.Stays.{frame-stays, argument-stays, saved-stays, callers_stay}
use Rattle.frame_simulation.specs.call_entries.Entering.{call_contents, entry_places, extents_from, called_sp, called_owner, called_frame, waiting_call, HasRoom, EntryIs}
use Rattle.frame_simulation.proofs.CallEntries.Passing.{GivenOrUnset, entry-given}
use Rattle.frame_simulation.proofs.CallEntries.Begins.{get-behind, sizes-are, extent-of, size-of, before-whole}

-- ---- the owners of the new frame

module _ (c : CallAt) (s : FrameShape) (own bottom : ℕ) (room : bottom + frame_size s ≤ c.sp) (free : (y : ℕ) → bottom ≤ y → y < c.sp → c.owner y ≡ Nobody) where
  sp-is : called_sp c s + frame_size s ≡ c.sp
  sp-is = omega (arith, room)

  owner-in : (i : ℕ) → i < frame_size s → called_owner c s own (called_sp c s + i) ≡ owner_at s (suc c.depth) own i
  owner-in i lt =
      let e : called_sp c s + i - called_sp c s ≡ i = omega arith in
      let up = sp-is in
      cond-false (nat_lt (called_sp c s + i) (called_sp c s)) _ _ (le-ltb (called_sp c s + i) (called_sp c s) (omega arith))
      ∙ cond-true (nat_lt (called_sp c s + i) c.sp) _ _ (lt-ltb (called_sp c s + i) c.sp (omega (arith, lt, up)))
      ∙ ap (owner_at s (suc c.depth) own) e

  owner-below : (y : ℕ) → y < called_sp c s → called_owner c s own y ≡ c.owner y
  owner-below y lt = cond-true (nat_lt y (called_sp c s)) _ _ (lt-ltb y (called_sp c s) lt)

  owner-above : (y : ℕ) → c.sp ≤ y → called_owner c s own y ≡ c.owner y
  owner-above y le =
      cond-false (nat_lt y (called_sp c s)) _ _ (le-ltb y (called_sp c s) (omega (arith, le)))
      ∙ cond-false (nat_lt y c.sp) _ _ (le-ltb y c.sp le)

  -- bytes that somebody owned lie beside the frame
  beside : (y : ℕ) → c.owner y ≢ Nobody → (y < called_sp c s) ⊎ (c.sp ≤ y)
  beside y ne = ⊎_elim inl (λ from. ⊎_elim (λ to. absurd (ne (free y (omega (arith, from, room)) to))) inr (cases_lt y c.sp)) (cases_lt y (called_sp c s))

  owner-else : (y : ℕ) → c.owner y ≢ Nobody → called_owner c s own y ≡ c.owner y
  owner-else y ne = ⊎_elim (owner-below y) (owner-above y) (beside y ne)

-- ---- the stack

below-top : (p : Program) (there : Labels) (start : Start) (xs : Extents) (owner : Owners) (m : Bytes) (gs : List WaitingCall) (view : ℕ → ℕ) (sp : ℕ) (s : FrameShape) → CallersAre p there start xs owner m view sp s gs → sp + frame_size s ≤ start.top
below-top p there start xs owner m [] view sp s a = let e = a.0 in omega (arith, e)
below-top p there start xs owner m (g ∷ gs) view sp s a =
    let h = below-top p there start xs owner m gs (view_above m (sp + frame_size s) g.shape view) (sp + frame_size s) g.shape a.3 in
    omega (arith, h)

-- a register that a call keeps is usable
kept-usable : (r : ℕ) → r < 16 → is_usable r ≡ true
kept-usable r to = ap (λ b. b || (r == 27)) (lt-ltb r 26 (omega (arith, to)))

usable-below : (r : ℕ) → is_usable r ≡ true → (r < 26) ⊎ (r ≡ 27)
usable-below r e = ⊎_elim (λ f. inl (ltb-true r 26 f)) (λ f. inr (eqb-true r 27 f)) (or_cases (nat_lt r 26) (r == 27) e)

-- an argument is held whatever it is
held-argument : (c : CallAt) (k : ℕ) (content : Content) (m : Bytes) → IsHeldArgument c k content m → ArgumentIs c k content m
held-argument c k (contents.Plain (Word n)) m h = h
held-argument c k (contents.Plain (Address q)) m h = h
held-argument c k (contents.Plain Unset) m h = tt
held-argument c k (Bundle cells) m h = h

unset-content : (xs : Extents) (content : Content) (w : ℕ) → content ≡ unset_content → ContentIs xs content w
unset-content xs content w e = subst (λ z. ContentIs xs z w) (sym e) tt

module _ (p : Program) (there : Labels) (start : Start) (c : CallAt) (gs : List WaitingCall) (o : Outer) (held : Places) (rest : List AsmItem) (end : ℕ) (s : State) (call : FitsTheStack c) (stack : StackIs p there start c gs held s) (outer : HasOuter o s) (l function arguments : ℕ) (shape : FrameShape) (body : List AsmItem) (last : ℕ) (at : ItemsAt p there (there l) (entry_part shape shape.saves body) last) (room : HasRoom p c shape) (few : arguments ≤ c.shape.outgoing + 6) (h : StandsFor p there (Branch Bsr 26 l ∷ rest) end c o.memory is_usable held s) where
  abbrev sp : ℕ
  sp = called_sp c shape

  abbrev D : CallAt
  D = called_frame c shape (length o.memory)

  abbrev entry : Places
  entry = entry_places (call_contents function arguments held)

  up : sp + frame_size shape ≡ c.sp
  up = sp-is c shape (length o.memory) (stack_start p) room.room stack.free

  else-owner : (y : ℕ) → c.owner y ≢ Nobody → called_owner c shape (length o.memory) y ≡ c.owner y
  else-owner = owner-else c shape (length o.memory) (stack_start p) room.room stack.free

  top : c.sp + frame_size c.shape ≤ start.top
  top = below-top p there start c.extents c.owner (memory_bytes p s) gs (view_above (memory_bytes p s) c.sp c.shape (register s)) c.sp c.shape stack.callers_are

  -- ---- the branch

  record HasBranched : Type 0 where
    to : State
    next : ℕ
    within : next ≤ length p.words
    comes : Leaves p (word_address next) s to
    some : 1 ≤ comes.steps
    items_at : ItemsAt p there next rest end
    is_at : IsAt p there (there l) (entry_part shape shape.saves body) last to
    registers : (q : ℕ) → q ≢ 26 → q ≢ 28 → register to q ≡ register s q
    link : register to 26 ≡ word_address next
    bytes : memory_bytes p to ≡ memory_bytes p s
    reached : (y : ℕ) → is_reached p to y ≡ is_reached p s y
    input : to.input ≡ s.input
    output : to.output ≡ s.output

  branched : HasBranched
  branched =
      let d = branches_step p there h.word Bsr 26 l rest end s (stands p there h.word (Branch Bsr 26 l) rest end s h.is_at) (omega arith) in
      let bytes = bytes-same p s d.to d.same in
      record {
        to = d.to;
        next = d.next;
        within = d.within;
        comes = d.comes;
        some = d.some;
        items_at = d.items_at;
        is_at = record {
          lawful = h.is_at.lawful;
          labels = h.is_at.labels;
          items_at = at;
          pc = d.pc;
          registers = d.same.registers ∙ h.is_at.registers;
          words = d.words h.is_at.words;
          parts = parts-same p s d.to d.same h.is_at.parts;
          bytes = λ y. subst (λ (b : Bytes). b y < 256) (sym bytes) (h.is_at.bytes y);
        };
        registers = λ q na nb. d.registers q nb ∙ read-other 26 q (word_address d.next) s na;
        link = d.registers 26 (λ e. omega (arith, e)) ∙ read-same 26 (word_address d.next) s (omega arith) h.is_at.registers;
        bytes = bytes;
        reached = reached-same p s d.to d.same;
        input = d.same.input;
        output = d.same.output;
      }

  -- ---- the entry part

  frame-at : (b : HasBranched) → IsFrameAt p b.to shape sp
  frame-at b =
      let even = h.frame.frame.aligned in
      let whole = (frames_are_small shape).whole in
      let e = up in
      let small = call.small in
      let near = room.near in
      let low = room.room in
      let high = top in
      record {
        aligned = omega (arith, even, whole, e);
        small = omega (arith, small, e);
        near = omega (arith, near);
        reached = λ i lt. b.reached (sp + i) ∙ stack.reached (sp + i) (omega (arith, low)) (omega (arith, lt, e, high));
      }

  entered : (b : HasBranched) → EntryDone p there body last shape shape.saves sp b.to
  entered b =
      let e = up in
      let st : register b.to 30 ≡ sp + frame_size shape = b.registers 30 (λ f. omega (arith, f)) (λ f. omega (arith, f)) ∙ h.stack ∙ sym e in
      entries_are_done p there (there l) body last shape shape.saves sp b.to b.is_at st (frame-at b)

  module _ (b : HasBranched) (x : EntryDone p there body last shape shape.saves sp b.to) where
    same-register : (q : ℕ) → is_usable q ≡ true → register x.to q ≡ register s q
    same-register q e = ⊎_elim
        (λ lt. x.others q (λ f. omega (arith, f, lt)) (λ f. omega (arith, f, lt)) ∙ b.registers q (λ f. omega (arith, f, lt)) (λ f. omega (arith, f, lt)))
        (λ is. x.others q (λ f. omega (arith, f, is)) (λ f. omega (arith, f, is)) ∙ b.registers q (λ f. omega (arith, f, is)) (λ f. omega (arith, f, is)))
        (usable-below q e)

    -- the registers of the caller are seen
    seen : (r : ℕ) → 9 ≤ r → r < 16 → (saves : Bool) → shape.saves r ≡ saves → (if saves then word_in (memory_bytes p x.to) (sp + saved_at shape r) else register x.to r) ≡ register s r
    seen r from to true e = x.saved r from to e ∙ b.registers r (λ f. omega (arith, f, to)) (λ f. omega (arith, f, to))
    seen r from to false e = same-register r (kept-usable r to)

    view-is : (r : ℕ) → 9 ≤ r → r < 16 → view_above (memory_bytes p x.to) sp shape (register x.to) r ≡ register s r
    view-is r from to = seen r from to (shape.saves r) refl

    same-byte : (y : ℕ) → c.owner y ≢ Nobody → memory_bytes p x.to y ≡ memory_bytes p s y
    same-byte y ne =
        let e = up in
        x.bytes y (⊎_elim inl (λ le. inr (omega (arith, le, e))) (beside c shape (length o.memory) (stack_start p) room.room stack.free y ne))
        ∙ ap (λ (m : Bytes). m y) b.bytes

    keeps : KeepsCallers (suc c.depth) 0 c.owner D.owner (memory_bytes p s) (memory_bytes p x.to)
    keeps = record { owners = λ y le ne. else-owner y ne; bytes = λ y le ne w. same-byte y ne }

    more : MoreExtents c.extents D.extents
    more = extents_grow c.extents (extents_from (sp + objects_at shape) shape.sizes)

    -- ---- the memory

    object-ne : (y k : ℕ) → c.owner y ≡ OfObject k → c.owner y ≢ Nobody
    object-ne y k e f = clash (sym e ∙ f)
      where
        clash : OfObject k ≡ Nobody → ⊥
        clash g = cc

    old-memory : MemoryIs c.extents o.memory c.owner (memory_bytes p x.to)
    old-memory = others_may_change c.extents o.memory c.owner c.owner (memory_bytes p s) (memory_bytes p x.to) h.frame.memory_is (record {
      owners = λ y k live e. e;
      same = λ y k live e. same-byte y (object-ne y k e);
      bytes = x.come.is_at.bytes;
    })

    are-new : AreNew o.memory D.owner (extents_from (sp + objects_at shape) shape.sizes) shape.sizes
    are-new = record {
      sizes_are = sizes-are shape.sizes (sp + objects_at shape);
      sound = λ k e is.
          let z = size-of shape.sizes (sp + objects_at shape) k e is in
          subst IsExtent (sym z.is) (sound k z.size z.made);
      own = λ k e is.
          let z = size-of shape.sizes (sp + objects_at shape) k e is in
          subst (λ (w : Extent). (y : ℕ) → w.base ≤ y → y < w.base + w.size → D.owner y ≡ OfObject (length o.memory + k)) (sym z.is) (own k z.size z.made);
    }
      where
        sound : (k n : ℕ) → slice_get shape.sizes k ≡ Some n → IsExtent (record { base = sp + objects_at shape + bytes_before shape.sizes k; size = n })
        sound k n e =
            let within = ((pieces_of shape (suc c.depth) (length o.memory)).objects k n e).within in
            let even = h.frame.frame.aligned in
            let whole = (frames_are_small shape).whole in
            let eight = before-whole shape.sizes k in
            let f = up in
            let small = call.small in
            record { above = omega arith; aligned = omega (arith, even, whole, eight, f); small = omega (arith, within, f, small) }

        own : (k n : ℕ) → slice_get shape.sizes k ≡ Some n → (y : ℕ) → sp + objects_at shape + bytes_before shape.sizes k ≤ y → y < sp + objects_at shape + bytes_before shape.sizes k + n → D.owner y ≡ OfObject (length o.memory + k)
        own k n e y from to =
            let piece = (pieces_of shape (suc c.depth) (length o.memory)).objects k n e in
            let within = piece.within in
            let i = y - (sp + frame_object_at shape k) in
            let f : sp + (frame_object_at shape k + i) ≡ y = omega (arith, from) in
            ap D.owner (sym f)
            ∙ owner-in c shape (length o.memory) (stack_start p) room.room stack.free (frame_object_at shape k + i) (omega (arith, from, to, within))
            ∙ piece.owned i (omega (arith, from, to))

    memory-is : MemoryIs D.extents (begin_objects o.memory shape.sizes) D.owner (memory_bytes p x.to)
    memory-is = objects_begin c.extents o.memory c.owner D.owner (memory_bytes p x.to) (extents_from (sp + objects_at shape) shape.sizes) shape.sizes old-memory (λ y k live e. else-owner y (object-ne y k e) ∙ e) are-new

    -- ---- the frame and the registers

    given : (q : places.Place) → GivenOrUnset held (arguments - 6) q (entry q)
    given q = entry-given function arguments held q

    slot-unset : (t : ℕ) → entry (Slot t) ≡ unset_content
    slot-unset t = ⊎_elim (λ e. e) (λ f. absurd f) (given (Slot t))

    out-unset : (k : ℕ) → entry (Out k) ≡ unset_content
    out-unset k = ⊎_elim (λ e. e) (λ f. absurd f) (given (Out k))

    frame-is : FrameIs D.extents D.owner (memory_bytes p x.to) sp (suc c.depth) (length o.memory) shape entry
    frame-is =
        let f = frame-at b in
        record {
          aligned = f.aligned;
          slots = λ t lt. unset-content D.extents (entry (Slot t)) (word_in (memory_bytes p x.to) (sp + slot_at shape t)) (slot-unset t);
          outgoing = λ k lt. unset-content D.extents (entry (Out k)) (word_in (memory_bytes p x.to) (sp + argument_at k)) (out-unset k);
          owned = owner-in c shape (length o.memory) (stack_start p) room.room stack.free;
          objects = λ k n e.
              let count : length o.memory ≡ length c.extents = sym h.frame.memory_is.count in
              let place : sp + objects_at shape + bytes_before shape.sizes k ≡ sp + frame_object_at shape k = omega arith in
              ap (λ z. slice_get D.extents (z + k)) count
              ∙ get-behind c.extents (extents_from (sp + objects_at shape) shape.sizes) k
              ∙ extent-of shape.sizes (sp + objects_at shape) k n e
              ∙ ap (λ z. Some (record { base = z; size = n })) place;
        }

    registers-are : (r : ℕ) → is_usable r ≡ true → ContentIs D.extents (entry (Reg r)) (register x.to r)
    registers-are r e = ⊎_elim
        (λ f. unset-content D.extents (entry (Reg r)) (register x.to r) f)
        (λ f. subst (λ z. ContentIs D.extents z (register x.to r)) (sym f) (subst (ContentIs D.extents (held (Reg r))) (sym (same-register r e)) (contents_stay c.extents D.extents (held (Reg r)) (register s r) more (h.registers r e))))
        (given (Reg r))

    reached-new : (y : ℕ) → D.owner y ≢ Nobody → is_reached p x.to y ≡ true
    reached-new y ne =
        let e = up in
        let low = room.room in
        let high = top in
        let through : is_reached p x.to y ≡ is_reached p s y = x.come.reached y ∙ b.reached y in
        through ∙ ⊎_elim
        (λ lt. h.reached y (λ f. ne (owner-below c shape (length o.memory) (stack_start p) room.room stack.free y lt ∙ f)))
        (λ from. ⊎_elim
        (λ to. stack.reached y (omega (arith, from, low)) (omega (arith, to, high)))
        (λ le. h.reached y (λ f. ne (owner-above c shape (length o.memory) (stack_start p) room.room stack.free y le ∙ f)))
        (cases_lt y c.sp))
        (cases_lt y sp)

    stands-new : StandsFor p there body last D (begin_locals o shape.sizes).memory is_usable entry x.to
    stands-new = record {
      word = x.come.next;
      is_at = x.come.is_at;
      stack = x.stack;
      frame = record { frame = frame-is; memory_is = memory-is };
      registers = registers-are;
      reached = reached-new;
    }

    -- ---- the calls that wait

    frame-moved : FrameIs D.extents D.owner (memory_bytes p x.to) c.sp c.depth c.own c.shape held
    frame-moved = frame-stays c.extents D.extents c.owner D.owner (memory_bytes p s) (memory_bytes p x.to) (suc c.depth) 0 more keeps c.sp c.depth c.own c.shape held (omega arith) (omega arith) h.frame.frame

    waits-at : WaitsAt D.extents D.owner (memory_bytes p x.to) c.sp (length gs) (waiting_call c held rest b.next end)
    waits-at = subst (λ d. WaitsAt D.extents D.owner (memory_bytes p x.to) c.sp d (waiting_call c held rest b.next end)) stack.depth (record {
      frame = frame-moved;
      arguments = λ j. argument-stays c.extents D.extents c.owner D.owner (memory_bytes p s) (memory_bytes p x.to) (suc c.depth) 0 more keeps c j (held (In j)) (omega arith) (omega arith) (stack.arguments j);
    })

    lower : FrameIs c.extents c.owner (memory_bytes p s) c.sp (length gs) c.own c.shape held
    lower = subst (λ d. FrameIs c.extents c.owner (memory_bytes p s) c.sp d c.own c.shape held) stack.depth h.frame.frame

    abbrev new-view : ℕ → ℕ
    new-view = view_above (memory_bytes p x.to) sp shape (register x.to)

    callers-moved : CallersAre p there start D.extents D.owner (memory_bytes p x.to) (view_above (memory_bytes p x.to) c.sp c.shape new-view) c.sp c.shape gs
    callers-moved =
        let deep = stack.depth in
        callers_stay p there start c.extents D.extents c.owner D.owner (memory_bytes p s) (memory_bytes p x.to) (suc c.depth) 0 more keeps gs (view_above (memory_bytes p s) c.sp c.shape (register s)) (view_above (memory_bytes p x.to) c.sp c.shape new-view) c.sp c.own c.shape held (omega (arith, deep)) (omega arith) lower
        (λ r from to.
        ap (λ w. if c.shape.saves r then w else new-view r) (saved-stays c.extents D.extents c.owner D.owner (memory_bytes p s) (memory_bytes p x.to) (suc c.depth) 0 more keeps c.sp (length gs) c.own c.shape held (omega arith) lower r from to)
        ∙ ap (λ w. if c.shape.saves r then word_in (memory_bytes p s) (c.sp + saved_at c.shape r) else w) (view-is r from to))
        stack.callers_are

    callers-new : CallersAre p there start D.extents D.owner (memory_bytes p x.to) new-view sp shape (waiting_call c held rest b.next end ∷ gs)
    callers-new = (
      record { is = x.back ∙ b.link; items_at = b.items_at },
      (λ r from to. subst (ContentIs D.extents (held (Reg r))) (sym (view-is r from to)) (contents_stay c.extents D.extents (held (Reg r)) (register s r) more (h.registers r (kept-usable r to)))),
      subst (λ z. WaitsAt D.extents D.owner (memory_bytes p x.to) z (length gs) (waiting_call c held rest b.next end)) (sym up) waits-at,
      subst (λ z. CallersAre p there start D.extents D.owner (memory_bytes p x.to) (view_above (memory_bytes p x.to) z c.shape new-view) z c.shape gs) (sym up) callers-moved,
    )

    -- an argument that the caller gave
    argument-new : (j : ℕ) → j < arguments - 6 → IsHeldArgument D j (held (Out j)) (memory_bytes p x.to)
    argument-new j lt =
        let e = up in
        let within = ((pieces_of c.shape c.depth c.own).arguments j (omega (arith, lt, few))).within in
        let small = call.small in
        let near = room.near in
        let jl : j < c.shape.outgoing = omega (arith, lt, few) in
        let word = argument-word D.extents D.owner (memory_bytes p x.to) c.sp c.depth c.own c.shape held frame-moved j jl in
        let place : sp + (frame_size shape + argument_at j) ≡ c.sp + argument_at j = omega (arith, e) in
        record {
          caller = c.depth;
          above = (let f : suc c.depth ≡ c.depth + 1 = omega arith in f);
          owned = λ i il. ap (λ z. D.owner (z + i)) place ∙ word.owned i il;
          small = omega (arith, place, within, small);
          near = omega (arith, within, near);
          is = subst (λ z. ContentIs D.extents (held (Out j)) (word_in (memory_bytes p x.to) z)) (sym place) (frame-moved.outgoing j jl);
        }

    arguments-new : (j : ℕ) → ArgumentIs D j (entry (In j)) (memory_bytes p x.to)
    arguments-new j = ⊎_elim
        (λ e. subst (λ z. ArgumentIs D j z (memory_bytes p x.to)) (sym e) tt)
        (λ f. subst (λ z. ArgumentIs D j z (memory_bytes p x.to)) (sym f.1) (held-argument D j (held (Out j)) (memory_bytes p x.to) (argument-new j f.0)))
        (given (In j))

    stack-new : StackIs p there start D (waiting_call c held rest b.next end ∷ gs) entry x.to
    stack-new = record {
      depth = ap suc stack.depth;
      callers_are = callers-new;
      arguments = arguments-new;
      free = λ y from to. owner-below c shape (length o.memory) (stack_start p) room.room stack.free y to ∙ stack.free y from (omega (arith, to));
      reached = λ y from to. x.come.reached y ∙ b.reached y ∙ stack.reached y from to;
    }

    entry-is : EntryIs p there start body last c D gs o held entry rest end s
    entry-is =
        let e = up in
        let small = call.small in
        let near = room.near in
        record {
          to = x.to;
          next = b.next;
          within = b.within;
          left = b.to;
          leaves = b.comes;
          some = b.some;
          begins = (let at = b.is_at.pc in omega (arith, at));
          comes = x.come.comes;
          is_call = record { small = omega (arith, e, small); near = omega (arith, near) };
          stands = stands-new;
          stack = stack-new;
          outer = record {
            input = x.come.input ∙ b.input ∙ outer.input;
            output = x.come.output ∙ b.output ∙ outer.output;
            bytes = outer.bytes;
          };
        }

pub calls_are_entered : (p : Program) (there : Labels) (start : Start) (c : CallAt) (gs : List WaitingCall) (o : Outer) (held : Places) (rest : List AsmItem) (end : ℕ) (s : State) → FitsTheStack c → StackIs p there start c gs held s → HasOuter o s → (l function arguments : ℕ) (shape : FrameShape) (body : List AsmItem) (last : ℕ) → ItemsAt p there (there l) (entry_part shape shape.saves body) last → HasRoom p c shape → arguments ≤ c.shape.outgoing + 6 → StandsFor p there (Branch Bsr 26 l ∷ rest) end c o.memory is_usable held s → EntryIs p there start body last c (called_frame c shape (length o.memory)) gs o held (entry_places (call_contents function arguments held)) rest end s
calls_are_entered p there start c gs o held rest end s call stack outer l function arguments shape body last at room few h =
    let b = branched p there start c gs o held rest end s call stack outer l function arguments shape body last at room few h in
    entry-is p there start c gs o held rest end s call stack outer l function arguments shape body last at room few h b (entered p there start c gs o held rest end s call stack outer l function arguments shape body last at room few h b)
