-- A call is left.
use Rattle.std.proofs.Common.{◌≡◌, ◌≢◌, ℕ, ◌+◌, ◌-◌, ◌*◌, ◌/◌, ◌<◌, Bool, true, false, List, ◌∷◌, length, refl, sym, ap, ◌∙◌, subst, arith, inl, ⊎_elim}
use Rattle.std.specs.Prelude.{◌==◌, if◌then◌else◌}
use Rattle.std.proofs.lemmas.Bool.{cases_lt, eqb-true}
use Rattle.alpha_isa.specs.Program.{Program, word_address}
use Rattle.alpha_isa.specs.State.{State, register}
use Rattle.alpha_items.specs.declared.item.AsmItem.{AsmItem}
use Rattle.frame_steps.specs.item_steps.Standing.{Labels}
use Rattle.mem_model.specs.Memory.{end_objects}
use Rattle.mem_model.specs.World.{Outer}
use Rattle.machine_model.specs.Machine.{end_locals}
use Rattle.temp_ir.specs.Fixed.{ended_by_calls, has_number}
use Rattle.alloc_model.specs.Contents.{unset_content}
use Rattle.alloc_model.specs.Stores.{first_or_unset}
use Rattle.alloc_model.specs.Places.{Places, Reg, In}
use Rattle.frame_memory.specs.Bytes.{Bytes}
use Rattle.frame_memory.specs.Relation.{Extents, Nobody, MemoryIs}
use Rattle.frame_memory.specs.Machine.{memory_bytes, is_reached}
use Rattle.frame_memory.specs.Laws.{MoreExtents, KeepsOwners}
use Rattle.frame_memory.proofs.Objects.{objects_end}
use Rattle.frame_memory.specs.flat_operations.Contents.{ContentIs}
use Rattle.frame_memory.specs.flat_frames.Shapes.{frame_size, saved_at}
use Rattle.frame_memory.specs.flat_frames.Frames.{word_in, FrameIs}
use Rattle.frame_steps.specs.frame_transfers.Laws.{CallAt, FitsTheStack, StandsFor}
use Rattle.frame_steps.specs.call_parts.Items.{exit_part}
use Rattle.frame_steps.specs.call_parts.Laws.{ExitDone}
use Rattle.frame_steps.proofs.CallParts.Exits.{exits_are_done}
use Rattle.frame_simulation.specs.call_stacks.InstructionItemsLaws.{is_usable, HasOuter, ArgumentsAre}
use Rattle.frame_simulation.proofs.CallStacks.Runs.{usable-low}
use Rattle.frame_simulation.specs.call_stacks.Stacks.{WaitingCall, call_frame, view_above, Start, CallersAre, StackIs, KeepsCallers}
use Rattle.frame_simulation.proofs.CallStacks.Stays.{frame-owned, frame-stays, argument-stays, saved-stays, callers_stay}
use Rattle.frame_simulation.specs.call_exits.Leaving.{result_contents, resumed_places, left_owner, caller_of, ExitIs}
use Rattle.frame_simulation.proofs.CallExits.Owners.{frame-own, own-ended, left-below, left-in, left-above, not-ended}

-- what is returned stands in register 0, or nothing is
pub returned-is : (xs : Extents) (held : Places) (w : ℕ) (with_value : Bool) → ContentIs xs (held (Reg 0)) w → ContentIs xs (first_or_unset (result_contents with_value held)) w
returned-is xs held w true h = h
returned-is xs held w false h = tt

-- the exit part of a call
pub left_call : (p : Program) (there : Labels) (c : CallAt) (o : Outer) (held : Places) (rest : List AsmItem) (end : ℕ) (s : State) → FitsTheStack c → StandsFor p there (exit_part c.shape c.shape.saves rest) end c o.memory is_usable held s → ExitDone p there c.shape c.shape.saves c.sp s
left_call p there c o held rest end s call h =
    exits_are_done p there h.word rest end c.shape c.shape.saves c.sp s h.is_at h.stack (record {
      aligned = h.frame.frame.aligned;
      small = call.small;
      near = call.near;
      reached = λ i lt. h.reached (c.sp + i) (λ e. frame-owned c.shape c.depth c.own i (sym (h.frame.frame.owned i lt) ∙ e));
    })

-- the memory without the objects of the call
pub ended-memory : (p : Program) (there : Labels) (c : CallAt) (o : Outer) (held : Places) (items : List AsmItem) (end : ℕ) (s t : State) → StandsFor p there items end c o.memory is_usable held s → memory_bytes p t ≡ memory_bytes p s → MemoryIs c.extents (end_objects o.memory c.own (length c.shape.sizes)) (left_owner c) (memory_bytes p t)
ended-memory p there c o held items end s t h same =
    subst (MemoryIs c.extents (end_objects o.memory c.own (length c.shape.sizes)) (left_owner c)) (sym same)
    (objects_end c.extents o.memory c.owner (left_owner c) (memory_bytes p s) c.own (length c.shape.sizes) h.frame.memory_is keeps)
  where
    keeps : KeepsOwners (end_objects o.memory c.own (length c.shape.sizes)) c.owner (left_owner c)
    keeps y k live e = ⊎_elim
        (λ lt. left-below c y lt ∙ e)
        (λ from. ⊎_elim
        (λ to.
        let f : c.sp + (y - c.sp) ≡ y = omega (arith, from) in
        let mine = h.frame.frame.owned (y - c.sp) (omega (arith, from, to)) in
        absurd (own-ended o.memory c.own (length c.shape.sizes) k (frame-own c.shape c.depth c.own (y - c.sp) k (sym mine ∙ ap c.owner f ∙ e)) live))
        (λ le. left-above c y le ∙ e)
        (cases_lt y (c.sp + frame_size c.shape)))
        (cases_lt y c.sp)

module _ (p : Program) (there : Labels) (start : Start) (c : CallAt) (g : WaitingCall) (gs : List WaitingCall) (o : Outer) (held : Places) (rest : List AsmItem) (end : ℕ) (s : State) (call : FitsTheStack c) (stack : StackIs p there start c (g ∷ gs) held s) (outer : HasOuter o s) (function arguments : ℕ) (with_value : Bool) (h : StandsFor p there (exit_part c.shape c.shape.saves rest) end c o.memory is_usable held s) (x : ExitDone p there c.shape c.shape.saves c.sp s) where
  abbrev up : ℕ
  up = c.sp + frame_size c.shape

  abbrev D : CallAt
  D = caller_of c (length gs) g

  abbrev after : Places
  after = resumed_places function arguments g (result_contents with_value held)

  abbrev m : Bytes
  m = memory_bytes p s

  abbrev k : Bytes
  k = memory_bytes p x.to

  abbrev view : ℕ → ℕ
  view = view_above m c.sp c.shape (register s)

  more : MoreExtents c.extents c.extents
  more o e f = f

  keeps : KeepsCallers c.depth up c.owner (left_owner c) m k
  keeps = record { owners = λ y le ne. left-above c y le; bytes = λ y le ne w. ap (λ (b : Bytes). b y) x.bytes }

  less : length gs < c.depth
  less = let e = stack.depth in omega (arith, e)

  frame-moved : FrameIs c.extents (left_owner c) k up (length gs) g.own g.shape g.held
  frame-moved = frame-stays c.extents c.extents c.owner (left_owner c) m k c.depth up more keeps up (length gs) g.own g.shape g.held less (omega arith) stack.callers_are.2.frame

  frame-is : FrameIs c.extents (left_owner c) k up (length gs) g.own g.shape after
  frame-is = record {
    aligned = frame-moved.aligned;
    slots = λ t lt. frame-moved.slots t lt;
    outgoing = λ j lt. tt;
    owned = frame-moved.owned;
    objects = frame-moved.objects;
  }

  -- a register but 0
  kept-register : (r : ℕ) → is_usable r ≡ true → (b : Bool) → has_number ended_by_calls r ≡ b → ContentIs c.extents (if b then unset_content else g.held (Reg r)) (register x.to r)
  kept-register r e true f = tt
  kept-register r e false f =
      let range = not-ended r (usable-low r e) f in
      subst (ContentIs c.extents (g.held (Reg r))) (sym (x.kept r range.0 range.1)) (stack.callers_are.1 r range.0 range.1)

  registers-are : (r : ℕ) → is_usable r ≡ true → ContentIs c.extents (after (Reg r)) (register x.to r)
  registers-are r e = by_test (r == 0) refl
    where
      zero-is : register x.to 0 ≡ register s 0
      zero-is = x.others 0 (inl (omega arith)) (λ f. omega (arith, f)) (λ f. omega (arith, f)) (λ f. omega (arith, f))

      by_test : (b : Bool) → (r == 0) ≡ b → ContentIs c.extents (if b then first_or_unset (result_contents with_value held) else (if has_number ended_by_calls r then unset_content else g.held (Reg r))) (register x.to r)
      by_test true f =
          subst (λ q. ContentIs c.extents (first_or_unset (result_contents with_value held)) (register x.to q)) (sym (eqb-true r 0 f))
          (subst (ContentIs c.extents (first_or_unset (result_contents with_value held))) (sym zero-is) (returned-is c.extents held (register s 0) with_value (h.registers 0 refl)))
      by_test false f = kept-register r e (has_number ended_by_calls r) refl

  reached-left : (y : ℕ) → left_owner c y ≢ Nobody → is_reached p x.to y ≡ true
  reached-left y ne = x.reached y ∙ h.reached y (λ e. ⊎_elim
      (λ lt. ne (left-below c y lt ∙ e))
      (λ from. ⊎_elim (λ to. ne (left-in c y from to)) (λ le. ne (left-above c y le ∙ e)) (cases_lt y up))
      (cases_lt y c.sp))

  -- the place behind the call
  pc-is : x.to.pc ≡ word_address g.place
  pc-is =
      let place = g.place in
      let e : word_address place / 4 * 4 ≡ word_address place = omega arith in
      x.pc ∙ ap (λ n. n / 4 * 4) stack.callers_are.0.is ∙ e

  callers-moved : CallersAre p there start c.extents (left_owner c) k (view_above k up g.shape (register x.to)) up g.shape gs
  callers-moved = callers_stay p there start c.extents c.extents c.owner (left_owner c) m k c.depth up more keeps gs (view_above m up g.shape view) (view_above k up g.shape (register x.to)) up g.own g.shape g.held (let lt = less in omega (arith, lt)) (omega arith) stack.callers_are.2.frame
      (λ r from to.
      ap (λ w. if g.shape.saves r then w else register x.to r) (saved-stays c.extents c.extents c.owner (left_owner c) m k c.depth up more keeps up (length gs) g.own g.shape g.held (omega arith) stack.callers_are.2.frame r from to)
      ∙ ap (λ w. if g.shape.saves r then word_in m (up + saved_at g.shape r) else w) (x.kept r from to))
      stack.callers_are.3

  arguments-are : ArgumentsAre D after k
  arguments-are j = argument-stays c.extents c.extents c.owner (left_owner c) m k c.depth up more keeps (call_frame c.extents c.owner up (length gs) g) j (g.held (In j)) (let lt = less in omega (arith, lt)) (omega arith) (stack.callers_are.2.arguments j)

  exit-is : ExitIs p there start g gs D (end_locals o c.own (length c.shape.sizes)) after s
  exit-is = record {
    to = x.to;
    comes = x.comes;
    at_place = pc-is;
    some = x.some;
    stands = record {
      word = g.place;
      is_at = x.is_at g.place g.behind g.end pc-is stack.callers_are.0.items_at;
      stack = x.stack;
      frame = record { frame = frame-is; memory_is = ended-memory p there c o held (exit_part c.shape c.shape.saves rest) end s x.to h x.bytes };
      registers = registers-are;
      reached = reached-left;
    };
    stack = record {
      depth = refl;
      callers_are = callers-moved;
      arguments = arguments-are;
      free = λ y from to. ⊎_elim (λ lt. left-below c y lt ∙ stack.free y from lt) (λ le. left-in c y le to) (cases_lt y c.sp);
      reached = λ y from to. x.reached y ∙ stack.reached y from to;
    };
    outer = record { input = x.input ∙ outer.input; output = x.output ∙ outer.output; bytes = outer.bytes };
  }

pub calls_are_left : (p : Program) (there : Labels) (start : Start) (c : CallAt) (g : WaitingCall) (gs : List WaitingCall) (o : Outer) (held : Places) (rest : List AsmItem) (end : ℕ) (s : State) → FitsTheStack c → StackIs p there start c (g ∷ gs) held s → HasOuter o s → (function arguments : ℕ) (with_value : Bool) → StandsFor p there (exit_part c.shape c.shape.saves rest) end c o.memory is_usable held s → ExitIs p there start g gs (caller_of c (length gs) g) (end_locals o c.own (length c.shape.sizes)) (resumed_places function arguments g (result_contents with_value held)) s
calls_are_left p there start c g gs o held rest end s call stack outer function arguments with_value h =
    exit-is p there start c g gs o held rest end s call stack outer function arguments with_value h (left_call p there c o held rest end s call h)
