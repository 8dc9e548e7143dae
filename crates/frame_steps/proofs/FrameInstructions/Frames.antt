-- What the machine does at the items of instructions on its frame.
use Rattle.std.proofs.Common.{◌≡◌, ℕ, zero, suc, ◌+◌, ◌%◌, ◌^◌, ◌<◌, ◌≤◌, Bool, true, List, [], ◌∷◌, ◌++◌, Some, refl, sym, ap, ◌∙◌, subst, arith, inl, inr}
use Rattle.std.specs.Prelude.{slice_get}
use Rattle.std.proofs.lemmas.Bool.{cases_eq}
use Rattle.alpha_isa.specs.Program.{Program, data_start}
use Rattle.alpha_isa.specs.State.{State, register}
use Rattle.alpha_items.specs.declared.item.AsmItem.{AsmItem}
use Rattle.alpha_items.specs.declared.item.AsmItem.TheVariants.{DataAddress}
use Rattle.alpha_items.specs.Words.{most_address}
use Rattle.frame_steps.specs.item_steps.Standing.{Labels}
use Rattle.frame_steps.proofs.ItemSteps.Steps.{data_address_steps}
use Rattle.mem_model.specs.Memory as memory
use Rattle.alloc_model.specs.Stores.{put}
use Rattle.alloc_model.specs.Places.{Places, Reg, In, Out, place_eq}
use Rattle.frame_memory.specs.Bytes.{Bytes}
use Rattle.frame_memory.specs.Relation.{Extent, IsExtent, OfFrame, Nobody, ArgumentPiece}
use Rattle.frame_memory.specs.Machine.{memory_bytes, IsReached}
use Rattle.frame_memory.specs.flat_operations.Contents.{ContentIs}
use Rattle.frame_memory.specs.flat_frames.Shapes.{frame_size, argument_at, frame_object_at, bytes_before}
use Rattle.frame_memory.specs.flat_frames.Frames.{put_word, word_in, FrameAndMemory, KeepsUnwritten}
use Rattle.frame_memory.proofs.FlatFrames.Shapes.{pieces_of}
use Rattle.frame_memory.proofs.FlatFrames.Frames.{unwritten-put, own-written, argument-word, arguments_are_put}
use Rattle.frame_steps.specs.frame_accesses.Items.{frame_load, frame_store, frame_address}
use Rattle.frame_steps.proofs.FrameAccesses.Runs.{stands, frame_loads, frame_stores, frame_addresses, bytes-same, reached-same, parts-same}
use Rattle.frame_steps.specs.frame_transfers.Laws.{CallAt, FitsTheStack, StandsFor, KnowsValues, IsWritable, HasDone}
use Rattle.frame_steps.specs.frame_instructions.Laws.{GivesRegister}
use Rattle.frame_steps.specs.frame_instructions.FrameLaws.{IsArgument, address_content}
use Rattle.frame_steps.proofs.FrameInstructions.Runs.{gives}

-- objects lie at multiples of 8
before-whole : (sizes : List ℕ) (k : ℕ) → bytes_before sizes k % 8 ≡ 0
before-whole sizes zero = refl
before-whole [] (suc k) = refl
before-whole (n ∷ sizes) (suc k) = let h = before-whole sizes k in omega (arith, h)

module _ (p : Program) (there : Labels) (rest : List AsmItem) (end : ℕ) (c : CallAt) (m : memory.Memory) (known : ℕ → Bool) (store : Places) (s : State) (call : FitsTheStack c) (knows : KnowsValues known) where
  -- ---- arguments

  pub arguments_are_written : (r k : ℕ) → StandsFor p there (frame_store r (argument_at k) ++ rest) end c m known store s → known r ≡ true → k < c.shape.outgoing → HasDone p there rest end c m known (put place_eq (Out k) (store (Reg r)) store) s
  arguments_are_written r k h e lt =
      let piece = (pieces_of c.shape c.depth c.own).arguments k lt in
      let within = piece.within in
      let small = call.small in
      let near = call.near in
      let even = h.frame.frame.aligned in
      let mine = argument-word c.extents c.owner (memory_bytes p s) c.sp c.depth c.own c.shape store h.frame.frame k lt in
      let place : register s 30 + argument_at k ≡ c.sp + argument_at k = ap (λ n. n + argument_at k) h.stack in
      let reach : IsReached p s (register s 30 + argument_at k) 8 = subst (λ a. IsReached p s a 8) (sym place) (record {
        aligned = omega (arith, even);
        reached = λ i il. h.reached (c.sp + argument_at k + i) (λ f. owned (sym (mine.owned i il) ∙ f));
      }) in
      let d = frame_stores p there h.word r (argument_at k) rest end s h.is_at (knows r e) (record { near = omega (arith, within, near); small = omega (arith, place, within, small) }) reach in
      let bytes : memory_bytes p d.to ≡ put_word (memory_bytes p s) (c.sp + argument_at k) (register s r) = d.bytes ∙ ap (λ a. put_word (memory_bytes p s) a (register s r)) place in
      record {
        to = d.to;
        comes = d.come.comes;
        stands = record {
          word = d.come.next;
          is_at = d.come.is_at;
          stack = d.others 30 (λ f. omega (arith, f)) ∙ h.stack;
          frame = subst (λ b. FrameAndMemory c.extents m c.owner b c.sp c.depth c.own c.shape (put place_eq (Out k) (store (Reg r)) store)) (sym bytes)
              (arguments_are_put c.extents m c.owner (memory_bytes p s) c.sp c.depth c.own c.shape store h.frame k (store (Reg r)) (register s r) lt (h.is_at.words r) (h.registers r e));
          registers = λ q f. subst (ContentIs c.extents (store (Reg q))) (sym (d.others q (λ g. let v = knows q f in omega (arith, g, v)))) (h.registers q f);
          reached = λ y own. d.come.reached y ∙ h.reached y own;
        };
        knows = knows;
        input = d.come.input;
        output = d.come.output;
        kept = record {
          reach = d.come.reached;
          bytes = subst (KeepsUnwritten c.owner c.depth (memory_bytes p s)) (sym bytes)
              (unwritten-put c.owner c.depth (memory_bytes p s) (c.sp + argument_at k) (register s r) (OfFrame c.depth (ArgumentPiece k)) mine
              (own-written c.depth (ArgumentPiece k) refl));
          registers = λ q from to f. d.others q (λ g. omega (arith, g, to));
        };
      }
    where
      owned : OfFrame c.depth (ArgumentPiece k) ≡ Nobody → ⊥
      owned e = cc

  pub arguments_are_read : (r k : ℕ) → StandsFor p there (frame_load r (frame_size c.shape + argument_at k) ++ rest) end c m known store s → IsWritable c.shape r → IsArgument c k (store (In k)) p s → GivesRegister p there rest end c m known store s r (store (In k))
  arguments_are_read r k h value a =
      let offset = frame_size c.shape + argument_at k in
      let even = h.frame.frame.aligned in
      let small = a.small in
      let place : register s 30 + (frame_size c.shape + argument_at k) ≡ c.sp + (frame_size c.shape + argument_at k) = ap (λ n. n + (frame_size c.shape + argument_at k)) h.stack in
      let reach : IsReached p s (register s 30 + (frame_size c.shape + argument_at k)) 8 = subst (λ b. IsReached p s b 8) (sym place) (record {
        aligned = omega (arith, even);
        reached = λ i il. h.reached (c.sp + (frame_size c.shape + argument_at k) + i) (λ f. owned a.depth (sym (a.owned i il) ∙ f));
      }) in
      let d = frame_loads p there h.word r (frame_size c.shape + argument_at k) rest end s h.is_at value.value (record { near = a.near; small = omega (arith, place, small) }) reach in
      let word : register d.to r ≡ word_in (memory_bytes p s) (c.sp + (frame_size c.shape + argument_at k)) = d.here ∙ ap (word_in (memory_bytes p s)) place in
      gives p there rest end c m known store s knows (frame_load r (frame_size c.shape + argument_at k) ++ rest) h r (store (In k)) value d.to d.come (subst (ContentIs c.extents (store (In k))) (sym word) a.is) d.others d.bytes
    where
      owned : (depth : ℕ) → OfFrame depth (ArgumentPiece k) ≡ Nobody → ⊥
      owned depth e = cc

  -- ---- addresses

  pub locals_have_addresses : (r k n plus : ℕ) → StandsFor p there (frame_address r (frame_object_at c.shape k + plus) ++ rest) end c m known store s → IsWritable c.shape r → slice_get c.shape.sizes k ≡ Some n → plus ≤ n → GivesRegister p there rest end c m known store s r (address_content (c.own + k) plus)
  locals_have_addresses r k n plus h value is le =
      let piece = (pieces_of c.shape c.depth c.own).objects k n is in
      let within = piece.within in
      let small = call.small in
      let near = call.near in
      let even = h.frame.frame.aligned in
      let whole = before-whole c.shape.sizes k in
      let offset = frame_object_at c.shape k + plus in
      let place : register s 30 + (frame_object_at c.shape k + plus) ≡ c.sp + (frame_object_at c.shape k + plus) = ap (λ z. z + (frame_object_at c.shape k + plus)) h.stack in
      let d = frame_addresses p there h.word r (frame_object_at c.shape k + plus) rest end s h.is_at value.value (record { near = omega (arith, within, near, le); small = omega (arith, place, within, small, le) }) in
      let base : register d.to r ≡ c.sp + frame_object_at c.shape k + plus = d.here ∙ place ∙ (let e : c.sp + (frame_object_at c.shape k + plus) ≡ c.sp + frame_object_at c.shape k + plus = omega arith in e) in
      gives p there rest end c m known store s knows (frame_address r (frame_object_at c.shape k + plus) ++ rest) h r (address_content (c.own + k) plus) value d.to d.come
      (record {
        extent = record { base = c.sp + frame_object_at c.shape k; size = n };
        made = h.frame.frame.objects k n is;
        sound = record { above = omega arith; aligned = omega (arith, even, whole); small = omega (arith, within, small) };
        at = plus;
        offset = refl;
        within = le;
        place = base;
      })
      d.others d.bytes

  pub globals_have_addresses : (r k offset plus : ℕ) (e : Extent) → StandsFor p there (DataAddress r (offset + plus) ∷ rest) end c m known store s → IsWritable c.shape r → slice_get c.extents k ≡ Some e → IsExtent e → e.base ≡ data_start p + offset → plus ≤ e.size → data_start p + (offset + plus) < most_address → GivesRegister p there rest end c m known store s r (address_content k plus)
  globals_have_addresses r k offset plus e h value made sound base le small =
      let d = data_address_steps p there h.word r (offset + plus) rest end s (stands p there h.word (DataAddress r (offset + plus)) rest end s h.is_at) (let lt = value.value in omega (arith, lt)) small in
      let same = d.has.same in
      let place : register d.to r ≡ e.base + plus = d.has.here ∙ (let f : data_start p + (offset + plus) ≡ e.base + plus = omega (arith, base) in f) in
      gives p there rest end c m known store s knows (DataAddress r (offset + plus) ∷ rest) h r (address_content k plus) value d.to
      (record {
        comes = d.behind.comes;
        next = d.behind.next;
        is_at = record {
          lawful = h.is_at.lawful;
          labels = h.is_at.labels;
          items_at = d.behind.items_at;
          pc = d.behind.pc;
          registers = same.registers ∙ h.is_at.registers;
          words = λ q. elim (cases_eq q r) [
            | inl f ↦ subst (λ z. register d.to z < 2 ^ 64) (sym f) (subst (λ z. z < 2 ^ 64) (sym d.has.here) (omega (arith, small)))
            | inr ne ↦ subst (λ z. z < 2 ^ 64) (sym (d.has.others q ne)) (h.is_at.words q)
          ];
          parts = parts-same p s d.to same h.is_at.parts;
          bytes = λ y. subst (λ (b : Bytes). b y < 256) (sym (bytes-same p s d.to same)) (h.is_at.bytes y);
        };
        input = same.input;
        output = same.output;
        reached = reached-same p s d.to same;
      })
      (record { extent = e; made = made; sound = sound; at = plus; offset = refl; within = le; place = place })
      (λ q ne far. d.has.others q ne)
      (bytes-same p s d.to same)
