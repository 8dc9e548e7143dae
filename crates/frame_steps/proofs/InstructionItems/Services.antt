-- What the machine does at the items of services.
use Rattle.std.proofs.Common.{◌≡◌, ℕ, ◌+◌, ◌*◌, ◌%◌, ◌^◌, ◌<◌, ◌≤◌, Bool, true, false, List, [], ◌∷◌, ◌++◌, length, drop, refl, sym, ap, ◌∙◌, subst, arith, inl, inr, length-set}
use Rattle.std.specs.Prelude.{if◌then◌else◌}
use Rattle.std.proofs.lemmas.Bool.{cases_eq, eqb-true}
use Rattle.alpha_isa.specs.declared.insn.Fields.TheVariants as fields
use Rattle.alpha_isa.specs.Program.{Program}
use Rattle.alpha_isa.specs.State.{State, register, with_register}
use Rattle.alpha_isa.specs.Step as step
use Rattle.alpha_isa.specs.Step.{Goes, Over, exec, insn_step, service_step, input_word, input_rest}
use Rattle.alpha_items.specs.declared.item.AsmItem.{AsmItem}
use Rattle.alpha_items.specs.declared.item.AsmItem.TheVariants.{Plain}
use Rattle.frame_steps.specs.item_steps.Standing.{Labels}
use Rattle.frame_steps.specs.item_steps.Steps.{SameElse}
use Rattle.frame_steps.proofs.ItemSteps.Steps.{plain_steps, plain_ends, one_end_paid, read-same, read-other}
use Rattle.mem_model.specs.declared.value.Value.TheVariants.{Word, Address, Unset}
use Rattle.mem_model.specs.World.{Outer, take_byte, put_byte}
use Rattle.machine_model.specs.Code.{HasNoMeaning, Writes, Stops}
use Rattle.temp_ir.specs.declared.operation.Service.TheVariants as service
use Rattle.temp_ir.specs.declared.insn.TempInsn.TheVariants as i
use Rattle.alloc_model.specs.Contents as contents
use Rattle.alloc_model.specs.Contents.{Content, Bundle}
use Rattle.alloc_model.specs.Stores.{put}
use Rattle.alloc_model.specs.Effect.{holds_number, end_act, put_act, trap_act}
use Rattle.alloc_model.specs.Places.{Places, Reg, place_eq}
use Rattle.mem_model.specs.Bytes.{AreBytes}
use Rattle.frame_memory.specs.Bytes.{Bytes}
use Rattle.frame_memory.specs.Relation.{Extents}
use Rattle.frame_memory.specs.Machine.{memory_bytes, is_reached, HasParts}
use Rattle.frame_memory.specs.flat_operations.Contents.{ContentIs}
use Rattle.frame_memory.specs.flat_frames.Frames.{FrameAndMemory, RegistersAre}
use Rattle.frame_memory.proofs.FlatFrames.Frames.{registers_are_put}
use Rattle.frame_steps.proofs.FrameAccesses.Runs.{stands, bytes-same, reached-same, parts-same}
use Rattle.frame_steps.specs.frame_transfers.Laws.{CallAt, StandsFor}
use Rattle.frame_steps.proofs.FrameTransfers.Runs.{frame-with_register, kept-same}
use Rattle.frame_steps.specs.instruction_items.Items.{ItemSetting}
use Rattle.frame_steps.specs.instruction_items.Laws.{is_usable, HasOuter, ComesToItems, ActIsDone, store_behind}
use Rattle.frame_steps.proofs.InstructionItems.Runs.{nothing-ended, more-usable}

-- a word that stands for a number
number-is : (xs : Extents) (n : ℕ) (c : Content) (w : ℕ) → ContentIs xs c w → holds_number n c ≡ true → w ≡ n
number-is xs n (contents.Plain (Word m)) w is e = is ∙ eqb-true m n e
number-is xs n (contents.Plain (Address q)) w is e = absurd (cc)
number-is xs n (contents.Plain Unset) w is e = absurd (cc)
number-is xs n (Bundle cells) w is e = absurd (cc)

-- the input once a byte of it was taken
rest-is : (bytes : List ℕ) → input_rest bytes ≡ drop 1 bytes
rest-is [] = refl
rest-is (b ∷ bytes) = refl

rest-bytes : (bytes : List ℕ) → AreBytes bytes → AreBytes (drop 1 bytes)
rest-bytes [] h = tt
rest-bytes (b ∷ bytes) h = h.1

byte-below : (bytes : List ℕ) → AreBytes bytes → input_word bytes < 2 ^ 64
byte-below [] h = omega arith
byte-below (b ∷ bytes) h = let lt = h.0 in omega (arith, lt)

-- bytes of memory do not hang on input and output
bytes-io : (p : Program) (s : State) (input output : List ℕ) → memory_bytes p (record s { input = input; output = output }) ≡ memory_bytes p s
unfolding memory_bytes
bytes-io p s input output = refl

module _ (p : Program) (there : Labels) (g : ItemSetting) (rest : List AsmItem) (end : ℕ) (c : CallAt) (o : Outer) (store : Places) (s : State) (outer : HasOuter o s) where
  abbrev Serves : ℕ → Type 0
  Serves function = StandsFor p there (Plain (fields.Pal function) ∷ rest) end c o.memory is_usable store s

  -- a state in which registers alone, the input and the output are others
  record IsServed (t : State) : Type 0 where
    data_bytes : t.data_bytes ≡ s.data_bytes
    stack_bytes : t.stack_bytes ≡ s.stack_bytes
    registers : length t.registers ≡ 32
    words : (q : ℕ) → register t q < 2 ^ 64
    stack : register t 30 ≡ register s 30
    kept : (q : ℕ) → 9 ≤ q → q < 16 → register t q ≡ register s q

  as-before : (t : State) → IsServed t → length s.registers ≡ 32 → SameElse s (record t { input = s.input; output = s.output })
  as-before t h len = record { registers = h.registers ∙ sym len; data_bytes = h.data_bytes; stack_bytes = h.stack_bytes; input = refl; output = refl }

  served-bytes : (t : State) → IsServed t → length s.registers ≡ 32 → memory_bytes p t ≡ memory_bytes p s
  served-bytes t h len = sym (bytes-io p t s.input s.output) ∙ bytes-same p s (record t { input = s.input; output = s.output }) (as-before t h len)

  served : (function : ℕ) (h : Serves function) (t : State) → IsServed t → t.pc ≡ s.pc + 4 → insn_step p (fields.Pal function) s ≡ Goes t → (new : Outer) → new.memory ≡ o.memory → HasOuter new t → (held : Places) → RegistersAre c.extents is_usable held t → FrameAndMemory c.extents o.memory c.owner (memory_bytes p s) c.sp c.depth c.own c.shape held → ComesToItems p there rest end c new held s
  served function h t is pc e new same outer_new held regs frame =
      let b = plain_steps p there h.word (fields.Pal function) rest end s t (stands p there h.word (Plain (fields.Pal function)) rest end s h.is_at) e pc in
      let len = h.is_at.registers in
      let bytes = served-bytes t is len in
      let u = record t { input = s.input; output = s.output } in
      let reach : (y : ℕ) → is_reached p t y ≡ is_reached p s y = reached-same p s u (as-before t is len) in
      let parts : HasParts p u = parts-same p s u (as-before t is len) h.is_at.parts in
      record {
        to = t;
        comes = b.comes;
        stands = subst (λ m. StandsFor p there rest end c m is_usable held t) (sym same) (record {
          word = b.next;
          is_at = record {
            lawful = h.is_at.lawful;
            labels = h.is_at.labels;
            items_at = b.items_at;
            pc = b.pc;
            registers = is.registers;
            words = is.words;
            parts = record { data_below = parts.data_below };
            bytes = λ y. subst (λ (m : Bytes). m y < 256) (sym bytes) (h.is_at.bytes y);
          };
          stack = is.stack ∙ h.stack;
          frame = subst (λ m. FrameAndMemory c.extents o.memory c.owner m c.sp c.depth c.own c.shape held) (sym bytes) frame;
          registers = regs;
          reached = λ y own. reach y ∙ h.reached y own;
        });
        outer = outer_new;
        kept = kept-same p c s t reach bytes (λ q from to f. is.kept q from to);
      }

  -- ---- a byte is put

  put-state : State
  put-state = record s { pc = s.pc + 4; output = s.output ++ (register s 16 % 256) ∷ [] }

  put-done : (h : Serves 0x83) (v : Content) → store (Reg 16) ≡ v → register s 0 ≡ 2 → ActIsDone p there g rest end c (store_behind [] (i.Serve service.PutByte) store) (i.Serve service.PutByte) s (put_act v o)
  unfolding put-state
  put-done h (contents.Plain (Word n)) e two =
      let is : register s 16 ≡ n = subst (λ z. ContentIs c.extents z (register s 16)) e (h.registers 16 refl) in
      subst (λ held. ComesToItems p there rest end c (put_byte o (n % 256)) held s) (sym (nothing-ended (i.Serve service.PutByte) store refl refl))
      (served 0x83 h put-state
      (record { data_bytes = refl; stack_bytes = refl; registers = h.is_at.registers; words = h.is_at.words; stack = refl; kept = λ q from to. refl })
      refl
      (ap (λ k. service_step k s) two)
      (put_byte o (n % 256)) refl
      (record { input = outer.input; output = ap (λ k. s.output ++ (k % 256) ∷ []) is ∙ ap (λ l. l ++ (n % 256) ∷ []) outer.output; bytes = outer.bytes })
      store h.registers h.frame)
  put-done h (contents.Plain (Address q)) e two = tt
  put-done h (contents.Plain Unset) e two = tt
  put-done h (Bundle cells) e two = tt

  pub put-byte-done : (h : Serves 0x83) (b : Bool) → holds_number 2 (store (Reg 0)) ≡ b → ActIsDone p there g rest end c (store_behind [] (i.Serve service.PutByte) store) (i.Serve service.PutByte) s (if b then put_act (store (Reg 16)) o else Stops HasNoMeaning o)
  put-byte-done h true e = put-done h (store (Reg 16)) refl (number-is c.extents 2 (store (Reg 0)) (register s 0) (h.registers 0 refl) e)
  put-byte-done h false e = tt

  -- ---- a byte is taken

  taken : State
  taken = record s { input = input_rest s.input }

  take-state : State
  take-state = record (with_register 0 (input_word s.input) taken) { pc = s.pc + 4 }

  pub take-byte-done : (h : Serves 0x83) (b : Bool) → holds_number 3 (store (Reg 0)) ≡ b → ActIsDone p there g rest end c (store_behind [] (i.Serve service.GetByte) store) (i.Serve service.GetByte) s (if b then Writes (contents.word_content (input_word o.input) ∷ []) (take_byte o) else Stops HasNoMeaning o)
  unfolding take-state taken
  take-byte-done h true e =
      let three = number-is c.extents 3 (store (Reg 0)) (register s 0) (h.registers 0 refl) e in
      let v = input_word s.input in
      let len : length taken.registers ≡ 32 = h.is_at.registers in
      let here : register take-state 0 ≡ v = read-same 0 v taken (omega arith) len in
      let word_is : v ≡ input_word o.input = ap input_word outer.input in
      let below : v < 2 ^ 64 = subst (λ k. k < 2 ^ 64) (sym word_is) (byte-below o.input outer.bytes) in
      let held = put place_eq (Reg 0) (contents.word_content (input_word o.input)) store in
      subst (λ k. ComesToItems p there rest end c (take_byte o) k s)
      (sym (ap (put place_eq (Reg 0) (contents.word_content (input_word o.input))) (nothing-ended (i.Serve service.GetByte) store refl refl)))
      (served 0x83 h take-state
      (record {
        data_bytes = refl;
        stack_bytes = refl;
        registers = length-with ∙ len;
        words = λ q. elim (cases_eq q 0) [
          | inl is ↦ subst (λ k. register take-state k < 2 ^ 64) (sym is) (subst (λ k. k < 2 ^ 64) (sym here) below)
          | inr ne ↦ subst (λ k. k < 2 ^ 64) (sym (read-other 0 q v taken ne)) (h.is_at.words q)
        ];
        stack = read-other 0 30 v taken (λ f. omega (arith, f));
        kept = λ q from to. read-other 0 q v taken (λ f. omega (arith, f, from));
      })
      refl
      (ap (λ k. service_step k s) three)
      (take_byte o) refl
      (record { input = ap input_rest outer.input ∙ rest-is o.input; output = outer.output; bytes = rest-bytes o.input outer.bytes })
      held
      (subst (λ k. RegistersAre c.extents k held take-state) (more-usable 0 refl)
      (registers_are_put c.extents is_usable store s take-state 0 (contents.word_content (input_word o.input)) h.registers (λ q f ne. read-other 0 q v taken ne) (here ∙ word_is)))
      (frame-with_register c.extents o.memory c.owner (memory_bytes p s) c.sp c.depth c.own c.shape store 0 (contents.word_content (input_word o.input)) h.frame))
    where
      length-with : length take-state.registers ≡ length taken.registers
      length-with = length-set s.registers 0 (input_word s.input)
  take-byte-done h false e = tt

  -- ---- ends

  end-done : (h : Serves 0x83) (v : Content) → store (Reg 16) ≡ v → register s 0 ≡ 1 → ActIsDone p there g rest end c (store_behind [] (i.Serve service.End) store) (i.Serve service.End) s (end_act v o)
  end-done h (contents.Plain (Word n)) e one =
      let is : register s 16 ≡ n = subst (λ z. ContentIs c.extents z (register s 16)) e (h.registers 16 refl) in
      let run : exec p 1 s ≡ Over (step.Done (n % 256)) s = plain_ends p there h.word (fields.Pal 0x83) rest end s s (step.Done (n % 256)) (stands p there h.word (Plain (fields.Pal 0x83)) rest end s h.is_at)
      (ap (λ k. service_step k s) one ∙ ap (λ k. Over (step.Done (k % 256)) s) is) in
      let x = one_end_paid p s s (step.Done (n % 256)) run tt in
      record {
        steps = 1;
        last = s;
        run = run;
        paid = omega (arith, x);
        output = outer.output;
      }
  end-done h (contents.Plain (Address q)) e one = tt
  end-done h (contents.Plain Unset) e one = tt
  end-done h (Bundle cells) e one = tt

  pub end-service-done : (h : Serves 0x83) (b : Bool) → holds_number 1 (store (Reg 0)) ≡ b → ActIsDone p there g rest end c (store_behind [] (i.Serve service.End) store) (i.Serve service.End) s (if b then end_act (store (Reg 16)) o else Stops HasNoMeaning o)
  end-service-done h true e = end-done h (store (Reg 16)) refl (number-is c.extents 1 (store (Reg 0)) (register s 0) (h.registers 0 refl) e)
  end-service-done h false e = tt

  pub trap-done : (h : Serves 0xAA) (v : Content) → store (Reg 16) ≡ v → ActIsDone p there g rest end c (store_behind [] (i.Serve service.Trap) store) (i.Serve service.Trap) s (trap_act v o)
  trap-done h (contents.Plain (Word n)) e =
      let is : register s 16 ≡ n = subst (λ z. ContentIs c.extents z (register s 16)) e (h.registers 16 refl) in
      let run : exec p 1 s ≡ Over (step.Trap n) s = plain_ends p there h.word (fields.Pal 0xAA) rest end s s (step.Trap n) (stands p there h.word (Plain (fields.Pal 0xAA)) rest end s h.is_at)
      (ap (λ k. Over (step.Trap k) s) is) in
      let x = one_end_paid p s s (step.Trap n) run tt in
      record {
        steps = 1;
        last = s;
        run = run;
        paid = omega (arith, x);
        output = outer.output;
      }
  trap-done h (contents.Plain (Address q)) e = tt
  trap-done h (contents.Plain Unset) e = tt
  trap-done h (Bundle cells) e = tt
