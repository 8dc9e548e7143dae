-- What the machine does at the items of transfers.
use Rattle.std.proofs.Common.{◌≡◌, ◌≢◌, ℕ, ◌+◌, ◌<◌, ◌≤◌, Bool, true, false, List, [], ◌∷◌, ◌++◌, refl, sym, ap, ◌∙◌, subst, arith, ⊎_elim}
use Rattle.std.specs.Prelude.{◌==◌}
use Rattle.std.proofs.lemmas.Bool.{or_cases, eqb-true}
use Rattle.alpha_isa.specs.Program.{Program}
use Rattle.alpha_isa.specs.State.{State, register}
use Rattle.alpha_items.specs.declared.item.AsmItem.{AsmItem}
use Rattle.frame_steps.specs.item_steps.Standing.{Labels}
use Rattle.frame_steps.proofs.ItemSteps.Steps.{steps_add_up}
use Rattle.mem_model.specs.Memory.{Memory}
use Rattle.alloc_model.specs.declared.allocation.Transfer.{Transfer}
use Rattle.alloc_model.specs.declared.allocation.Transfer.TheVariants.{Store, Load, Shift}
use Rattle.alloc_model.specs.Contents.{Content}
use Rattle.alloc_model.specs.Stores.{put}
use Rattle.alloc_model.specs.Places.{Places, Reg, Slot, place_eq, source_of, transfer_target, do_all}
use Rattle.frame_memory.specs.Bytes.{Bytes}
use Rattle.frame_memory.specs.Relation.{Extents, Owners, OfFrame, Nobody, SlotPiece}
use Rattle.frame_memory.specs.Machine.{memory_bytes, is_reached, IsReached}
use Rattle.frame_memory.specs.flat_operations.Contents.{ContentIs}
use Rattle.frame_memory.specs.flat_frames.Shapes.{FrameShape, slot_at}
use Rattle.frame_memory.specs.flat_frames.Frames.{word_in, put_word, FrameAndMemory, with_known, KeepsUnwritten}
use Rattle.frame_memory.proofs.FlatFrames.Shapes.{pieces_of}
use Rattle.frame_memory.proofs.FlatFrames.Frames.{unwritten-put, own-written, slot-word, slots_are_put, registers_are_put}
use Rattle.frame_steps.specs.frame_accesses.Laws.{IsOffset, IsValueRegister}
use Rattle.frame_steps.proofs.FrameAccesses.Runs.{frame_loads, frame_stores, register_moves, stays}
use Rattle.frame_steps.specs.frame_transfers.Items.{transfer_items, items_of_transfers}
use Rattle.frame_steps.specs.frame_transfers.Laws.{CallAt, FitsTheStack, StandsFor, KnowsValues, known_after, known_behind, CanTransfer, CanTransferAll, IsWritable, IsKept, HasDone}

-- a register more holds a content
pub frame-with_register : (xs : Extents) (memory : Memory) (owner : Owners) (m : Bytes) (sp depth own : ℕ) (s : FrameShape) (store : Places) (r : ℕ) (c : Content) → FrameAndMemory xs memory owner m sp depth own s store → FrameAndMemory xs memory owner m sp depth own s (put place_eq (Reg r) c store)
frame-with_register xs memory owner m sp depth own s store r c f = record {
  frame = record {
    aligned = f.frame.aligned;
    slots = f.frame.slots;
    outgoing = f.frame.outgoing;
    owned = f.frame.owned;
    objects = f.frame.objects;
  };
  memory_is = f.memory_is;
}

pub knows-more : (known : ℕ → Bool) (r : ℕ) → KnowsValues known → IsValueRegister r → KnowsValues (with_known known r)
knows-more known r knows value q e = ⊎_elim
    (λ (f : (q == r) ≡ true). subst IsValueRegister (sym (eqb-true q r f)) value)
    (λ f. knows q f)
    (or_cases (q == r) (known q) e)

-- where no byte has changed
pub kept-same : (p : Program) (c : CallAt) (s t : State) → ((y : ℕ) → is_reached p t y ≡ is_reached p s y) → memory_bytes p t ≡ memory_bytes p s → ((q : ℕ) → 9 ≤ q → q < 16 → c.shape.saves q ≡ false → register t q ≡ register s q) → IsKept p c s t
kept-same p c s t reach same registers = record { reach = reach; bytes = λ y e. ap (λ (m : Bytes). m y) same; registers = registers }

-- a register that is not saved is none that is written
pub unsaved-other : (s : FrameShape) (r q : ℕ) → IsWritable s r → 9 ≤ q → q < 16 → s.saves q ≡ false → q ≢ r
unsaved-other s r q w from to e same = clash (sym (ap s.saves same ∙ w.saved (subst (λ k. 9 ≤ k) same from) (subst (λ k. k < 16) same to)) ∙ e)
  where
    clash : true ≡ false → ⊥
    clash f = cc

pub kept-through : (p : Program) (c : CallAt) (s t u : State) → IsKept p c s t → IsKept p c t u → IsKept p c s u
kept-through p c s t u a b = record { reach = λ y. b.reach y ∙ a.reach y; bytes = λ y e. b.bytes y e ∙ a.bytes y e; registers = λ q from to e. b.registers q from to e ∙ a.registers q from to e }

module _ (p : Program) (there : Labels) (rest : List AsmItem) (end : ℕ) (c : CallAt) (memory : Memory) (call : FitsTheStack c) where
  -- the slot of a temporary may be accessed
  record SlotReached (t : ℕ) (s : State) : Type 0 where
    offset : IsOffset s (slot_at c.shape t)
    reached : IsReached p s (register s 30 + slot_at c.shape t) 8
    place : register s 30 + slot_at c.shape t ≡ c.sp + slot_at c.shape t

  slot-reached : (t : ℕ) (items : List AsmItem) (known : ℕ → Bool) (store : Places) (s : State) → t < c.shape.temps → StandsFor p there items end c memory known store s → SlotReached t s
  slot-reached t items known store s lt h =
      let piece = (pieces_of c.shape c.depth c.own).slots t lt in
      let within = piece.within in
      let small = call.small in
      let near = call.near in
      let even = h.frame.frame.aligned in
      let mine = slot-word c.extents c.owner (memory_bytes p s) c.sp c.depth c.own c.shape store h.frame.frame t lt in
      let place : register s 30 + slot_at c.shape t ≡ c.sp + slot_at c.shape t = ap (λ n. n + slot_at c.shape t) h.stack in
      record {
        offset = record { near = omega (arith, within, near); small = omega (arith, place, within, small) };
        reached = subst (λ a. IsReached p s a 8) (sym place) (record {
          aligned = omega (arith, even);
          reached = λ i il. h.reached (c.sp + slot_at c.shape t + i) (λ e. owned (sym (mine.owned i il) ∙ e));
        });
        place = place;
      }
    where
      owned : OfFrame c.depth (SlotPiece t) ≡ Nobody → ⊥
      owned e = cc

  transfer-done : (x : Transfer) (known : ℕ → Bool) (store : Places) (s : State) → KnowsValues known → CanTransfer c.shape known x → StandsFor p there (transfer_items c.shape x ++ rest) end c memory known store s → HasDone p there rest end c memory (known_after x known) (put place_eq (transfer_target x) (store (source_of x)) store) s
  transfer-done (Store t r) known store s knows can h =
      let slot = slot-reached t (transfer_items c.shape (Store t r) ++ rest) known store s can.0 h in
      let d = frame_stores p there h.word r (slot_at c.shape t) rest end s h.is_at (knows r can.1) slot.offset slot.reached in
      let bytes : memory_bytes p d.to ≡ put_word (memory_bytes p s) (c.sp + slot_at c.shape t) (register s r) = d.bytes ∙ ap (λ a. put_word (memory_bytes p s) a (register s r)) slot.place in
      record {
        to = d.to;
        comes = d.come.comes;
        stands = record {
          word = d.come.next;
          is_at = d.come.is_at;
          stack = d.others 30 (λ e. omega (arith, e)) ∙ h.stack;
          frame = subst (λ m. FrameAndMemory c.extents memory c.owner m c.sp c.depth c.own c.shape (put place_eq (Slot t) (store (Reg r)) store)) (sym bytes)
              (slots_are_put c.extents memory c.owner (memory_bytes p s) c.sp c.depth c.own c.shape store h.frame t (store (Reg r)) (register s r) can.0 (h.is_at.words r) (h.registers r can.1));
          registers = λ q e. subst (ContentIs c.extents (store (Reg q))) (sym (d.others q (λ f. let v = knows q e in omega (arith, f, v)))) (h.registers q e);
          reached = λ y own. d.come.reached y ∙ h.reached y own;
        };
        knows = knows;
        input = d.come.input;
        output = d.come.output;
        kept = record {
          reach = d.come.reached;
          bytes = subst (KeepsUnwritten c.owner c.depth (memory_bytes p s)) (sym bytes)
              (unwritten-put c.owner c.depth (memory_bytes p s) (c.sp + slot_at c.shape t) (register s r) (OfFrame c.depth (SlotPiece t))
              (slot-word c.extents c.owner (memory_bytes p s) c.sp c.depth c.own c.shape store h.frame.frame t can.0)
              (own-written c.depth (SlotPiece t) refl));
          registers = λ q from to e. d.others q (λ f. omega (arith, f, to));
        };
      }
  transfer-done (Load t r) known store s knows can h =
      let slot = slot-reached t (transfer_items c.shape (Load t r) ++ rest) known store s can.0 h in
      let d = frame_loads p there h.word r (slot_at c.shape t) rest end s h.is_at can.1.value slot.offset slot.reached in
      let word : register d.to r ≡ word_in (memory_bytes p s) (c.sp + slot_at c.shape t) = d.here ∙ ap (word_in (memory_bytes p s)) slot.place in
      let value = can.1.value in
      record {
        to = d.to;
        comes = d.come.comes;
        stands = record {
          word = d.come.next;
          is_at = d.come.is_at;
          stack = d.others 30 (λ e. omega (arith, e, value)) (λ e. omega (arith, e)) ∙ h.stack;
          frame = frame-with_register c.extents memory c.owner (memory_bytes p d.to) c.sp c.depth c.own c.shape store r (store (Slot t))
              (subst (λ m. FrameAndMemory c.extents memory c.owner m c.sp c.depth c.own c.shape store) (sym d.bytes) h.frame);
          registers = registers_are_put c.extents known store s d.to r (store (Slot t)) h.registers (λ q e ne. d.others q ne (λ f. let v = knows q e in omega (arith, f, v)))
              (subst (ContentIs c.extents (store (Slot t))) (sym word) (h.frame.frame.slots t can.0));
          reached = λ y own. d.come.reached y ∙ h.reached y own;
        };
        knows = knows-more known r knows can.1.value;
        input = d.come.input;
        output = d.come.output;
        kept = kept-same p c s d.to d.come.reached d.bytes (λ q from to e. d.others q (unsaved-other c.shape r q can.1 from to e) (λ f. omega (arith, f, to)));
      }
  transfer-done (Shift t from to) known store s knows can h =
      let d = register_moves p there h.word from to rest end s h.is_at can.1.value in
      let value = can.1.value in
      record {
        to = d.to;
        comes = d.come.comes;
        stands = record {
          word = d.come.next;
          is_at = d.come.is_at;
          stack = d.others 30 (λ e. omega (arith, e, value)) (λ e. omega (arith, e)) ∙ h.stack;
          frame = frame-with_register c.extents memory c.owner (memory_bytes p d.to) c.sp c.depth c.own c.shape store to (store (Reg from))
              (subst (λ m. FrameAndMemory c.extents memory c.owner m c.sp c.depth c.own c.shape store) (sym d.bytes) h.frame);
          registers = registers_are_put c.extents known store s d.to to (store (Reg from)) h.registers (λ q e ne. d.others q ne (λ f. let v = knows q e in omega (arith, f, v)))
              (subst (ContentIs c.extents (store (Reg from))) (sym d.here) (h.registers from can.0));
          reached = λ y own. d.come.reached y ∙ h.reached y own;
        };
        knows = knows-more known to knows can.1.value;
        input = d.come.input;
        output = d.come.output;
        kept = kept-same p c s d.to d.come.reached d.bytes (λ q low high e. d.others q (unsaved-other c.shape to q can.1 low high e) (λ f. omega (arith, f, high)));
      }

-- several transfers
pub transfers_are_done : (p : Program) (there : Labels) (rest : List AsmItem) (end : ℕ) (c : CallAt) (memory : Memory) → FitsTheStack c → (xs : List Transfer) (known : ℕ → Bool) (store : Places) (s : State) → KnowsValues known → CanTransferAll c.shape known xs → StandsFor p there (items_of_transfers c.shape xs rest) end c memory known store s → HasDone p there rest end c memory (known_behind xs known) (do_all xs store) s
transfers_are_done p there rest end c memory call [] known store s knows can h =
    record { to = s; comes = stays p s; stands = h; knows = knows; input = refl; output = refl; kept = kept-same p c s s (λ y. refl) refl (λ q from to e. refl) }
transfers_are_done p there rest end c memory call (x ∷ xs) known store s knows can h =
    let d = transfer-done p there (items_of_transfers c.shape xs rest) end c memory call x known store s knows can.0 h in
    let e = transfers_are_done p there rest end c memory call xs (known_after x known) (put place_eq (transfer_target x) (store (source_of x)) store) d.to d.knows can.1 d.stands in
    record { to = e.to; comes = steps_add_up p s d.to e.to d.comes e.comes; stands = e.stands; knows = e.knows; input = e.input ∙ d.input; output = e.output ∙ d.output; kept = kept-through p c s d.to e.to d.kept e.kept }
