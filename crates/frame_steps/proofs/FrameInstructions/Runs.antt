-- What the machine does at the items of instructions on registers.
use Rattle.std.proofs.Common.{◌≡◌, ◌≢◌, ℕ, suc, ◌+◌, ◌-◌, ◌^◌, ◌<◌, Bool, true, false, List, ◌∷◌, length, Some, refl, sym, ap, ◌∙◌, subst, arith, inl, inr}
use Rattle.std.specs.Prelude.{◌==◌, ℤ, pos, negsuc, ◌*ℤ◌, slice_index, if◌then◌else◌}
use Rattle.alpha_isa.specs.declared.insn.Fields.{Fields}
use Rattle.alpha_isa.specs.declared.insn.Fields.TheVariants.{Memory}
use Rattle.alpha_isa.specs.declared.insn.MemoryOp.TheVariants.{Lda}
use Rattle.alpha_isa.specs.Arithmetic.{word_at, word_from}
use Rattle.alpha_isa.specs.Lawful.{IsDisplacement}
use Rattle.alpha_isa.specs.Program.{Program, word_address}
use Rattle.alpha_isa.specs.State.{State, register, with_register}
use Rattle.alpha_isa.specs.Step.{insn_step, next_instruction, links, is_branch_taken}
use Rattle.alpha_items.specs.declared.item.AsmItem.{AsmItem}
use Rattle.alpha_items.specs.declared.item.AsmItem.TheVariants.{Plain, Branch}
use Rattle.frame_steps.specs.item_steps.Standing.{Labels}
use Rattle.frame_steps.proofs.ItemSteps.Steps.{plain_steps, branches_step}
use Rattle.mem_model.specs.Memory as memory
use Rattle.temp_ir.specs.declared.operation.AddressOp.{AddressOp}
use Rattle.temp_ir.specs.declared.operation.AddressOp.TheVariants as address
use Rattle.temp_ir.specs.declared.operation.LoadOp.{LoadOp}
use Rattle.temp_ir.specs.declared.operation.StoreOp.{StoreOp}
use Rattle.temp_ir.specs.declared.operation.TempBranchOp.{TempBranchOp}
use Rattle.temp_ir.specs.declared.operation.TempBranchOp.TheVariants.{Blbc, Beq, Blt, Ble, Blbs, Bne, Bge, Bgt}
use Rattle.temp_ir.specs.Operations.{address_op, load_op, store_op, branch_op}
use Rattle.alloc_model.specs.Contents.{Content, word_content, moved_bytes, moved_content, loaded_content, stored_memory, branch_test}
use Rattle.alloc_model.specs.Places.{Places, Reg}
use Rattle.frame_memory.specs.Bytes.{Bytes}
use Rattle.frame_memory.specs.Machine.{memory_bytes}
use Rattle.frame_memory.specs.flat_operations.Contents.{ContentIs}
use Rattle.frame_memory.specs.flat_operations.Steps.{HasMemory}
use Rattle.frame_memory.proofs.FlatOperations.Operations.{moves_correspond, tests_correspond}
use Rattle.frame_memory.proofs.FlatOperations.Steps.{loads_step, stores_step}
use Rattle.frame_memory.specs.flat_frames.Frames.{FrameAndMemory}
use Rattle.frame_memory.proofs.FlatFrames.Frames.{unwritten-objects, frames_stay, registers_are_put}
use Rattle.frame_steps.specs.frame_accesses.Laws.{HasCome}
use Rattle.frame_steps.proofs.FrameAccesses.Runs.{stands, word-written, bytes-same, reached-same, parts-same}
use Rattle.frame_steps.specs.frame_transfers.Laws.{CallAt, StandsFor, KnowsValues, IsWritable, HasDone}
use Rattle.frame_steps.proofs.FrameTransfers.Runs.{frame-with_register, knows-more, kept-same, unsaved-other}
use Rattle.frame_steps.specs.frame_instructions.Laws.{StandsIn, GivesRegister, BranchIsDone}

module _ (p : Program) (there : Labels) (rest : List AsmItem) (end : ℕ) (c : CallAt) (m : memory.Memory) (known : ℕ → Bool) (store : Places) (s : State) (knows : KnowsValues known) where
  -- a state in which a register has a word for a content
  pub gives : (items : List AsmItem) (h : StandsFor p there items end c m known store s) (r : ℕ) (content : Content) → IsWritable c.shape r → (t : State) → HasCome p there rest end s t → ContentIs c.extents content (register t r) → ((q : ℕ) → q ≢ r → q ≢ 29 → register t q ≡ register s q) → memory_bytes p t ≡ memory_bytes p s → GivesRegister p there rest end c m known store s r content
  gives items h r content value t come is others bytes = record {
    to = t;
    comes = come.comes;
    stands = record {
      word = come.next;
      is_at = come.is_at;
      stack = others 30 (λ e. let lt = value.value in omega (arith, e, lt)) (λ e. omega (arith, e)) ∙ h.stack;
      frame = frame-with_register c.extents m c.owner (memory_bytes p t) c.sp c.depth c.own c.shape store r content
          (subst (λ b. FrameAndMemory c.extents m c.owner b c.sp c.depth c.own c.shape store) (sym bytes) h.frame);
      registers = registers_are_put c.extents known store s t r content h.registers (λ q e ne. others q ne (λ f. let v = knows q e in omega (arith, f, v))) is;
      reached = λ y own. come.reached y ∙ h.reached y own;
    };
    knows = knows-more known r knows value.value;
    input = come.input;
    output = come.output;
    kept = kept-same p c s t come.reached bytes (λ q from to e. others q (unsaved-other c.shape r q value from to e) (λ f. omega (arith, f, to)));
  }

  has-memory : (items : List AsmItem) → StandsFor p there items end c m known store s → HasMemory c.extents m c.owner p s
  has-memory items h = record { parts = h.is_at.parts; memory_is = h.frame.memory_is; reached = h.reached }

  pub written-gives : (insn : Fields) (h : StandsFor p there (Plain insn ∷ rest) end c m known store s) (r : ℕ) (v : ℕ) (content : Content) → IsWritable c.shape r → v < 2 ^ 64 → insn_step p insn s ≡ next_instruction (with_register r v s) → ContentIs c.extents content v → GivesRegister p there rest end c m known store s r content
  written-gives insn h r v content value small e is =
      let x = word-written p there h.word insn rest end r v s h.is_at (let lt = value.value in omega (arith, lt)) small e in
      gives (Plain insn ∷ rest) h r content value x.to x.come (subst (ContentIs c.extents content) (sym x.here) is) (λ q ne far. x.others q ne) x.bytes

  -- the content of a register that is known, or is 31
  pub stands-in : (items : List AsmItem) (r : ℕ) (value : Content) → StandsFor p there items end c m known store s → StandsIn known store r value → ContentIs c.extents value (register s r)
  stands-in items r value h (inl k) = subst (λ z. ContentIs c.extents z (register s r)) (sym k.1) (h.registers r k.0)
  stands-in items r value h (inr z) = subst (λ x. ContentIs c.extents x (register s r)) (sym z.1) (ap (register s) z.0)

  -- ---- loads and stores

  pub loads_are_done : (op : LoadOp) (r pointer : ℕ) (plus : ℤ) (content : Content) → StandsFor p there (Plain (Memory (load_op op) r pointer plus) ∷ rest) end c m known store s → known pointer ≡ true → IsWritable c.shape r → loaded_content m op (store (Reg pointer)) plus ≡ Some content → GivesRegister p there rest end c m known store s r content
  loads_are_done op r pointer plus content h k value e =
      let l = loads_step c.extents m c.owner p s (has-memory (Plain (Memory (load_op op) r pointer plus) ∷ rest) h) op r pointer plus (store (Reg pointer)) content (h.registers pointer k) e in
      written-gives (Memory (load_op op) r pointer plus) h r l.word content value l.small l.goes l.content

  pub stores_are_done : (op : StoreOp) (r pointer : ℕ) (plus : ℤ) (value : Content) (new : memory.Memory) → StandsFor p there (Plain (Memory (store_op op) r pointer plus) ∷ rest) end c m known store s → StandsIn known store r value → known pointer ≡ true → stored_memory m op value (store (Reg pointer)) plus ≡ Some new → HasDone p there rest end c new known store s
  stores_are_done op r pointer plus value new h from k e =
      let items = Plain (Memory (store_op op) r pointer plus) ∷ rest in
      let x = stores_step c.extents m c.owner p s (has-memory items h) new op r pointer plus value (store (Reg pointer)) (stands-in items r value h from) (h.registers pointer k) e in
      let b = plain_steps p there h.word (Memory (store_op op) r pointer plus) rest end s x.to (stands p there h.word (Plain (Memory (store_op op) r pointer plus)) rest end s h.is_at) x.goes x.pc in
      let same = λ (q : ℕ). ap (λ rs. if q == 31 then 0 else slice_index rs q) x.registers in
      record {
        to = x.to;
        comes = b.comes;
        stands = record {
          word = b.next;
          is_at = record {
            lawful = h.is_at.lawful;
            labels = h.is_at.labels;
            items_at = b.items_at;
            pc = b.pc;
            registers = ap length x.registers ∙ h.is_at.registers;
            words = λ q. subst (λ n. n < 2 ^ 64) (sym (same q)) (h.is_at.words q);
            parts = x.memory.parts;
            bytes = x.memory.memory_is.bytes;
          };
          stack = same 30 ∙ h.stack;
          frame = record {
            frame = frames_stay c.extents c.owner (memory_bytes p s) c.sp c.depth c.own c.shape store h.frame.frame (memory_bytes p x.to) (record { same = x.others });
            memory_is = x.memory.memory_is;
          };
          registers = λ q f. subst (ContentIs c.extents (store (Reg q))) (sym (same q)) (h.registers q f);
          reached = x.memory.reached;
        };
        knows = knows;
        input = x.input;
        output = x.output;
        kept = record { reach = x.reach; bytes = unwritten-objects c.owner c.depth (memory_bytes p s) (memory_bytes p x.to) (record { same = x.others }); registers = λ q from to e. same q };
      }

  -- ---- moves

  sum-below : (n : ℕ) → word_at n < 2 ^ 64
  sum-below n = omega arith

  pub moves_are_done : (op : AddressOp) (r base : ℕ) (plus : ℤ) (value content : Content) → StandsFor p there (Plain (Memory (address_op op) r base plus) ∷ rest) end c m known store s → StandsIn known store base value → IsWritable c.shape r → moved_content m value (moved_bytes op plus) ≡ Some content → GivesRegister p there rest end c m known store s r content
  moves_are_done address.Lda r base plus value content h from to e =
      written-gives (Memory (address_op address.Lda) r base plus) h r (word_at (register s base + word_from plus)) content to (sum-below (register s base + word_from plus)) refl
      (moves_correspond c.extents m c.owner (memory_bytes p s) h.frame.memory_is value content (register s base) plus (stands-in (Plain (Memory (address_op address.Lda) r base plus) ∷ rest) base value h from) e)
  moves_are_done address.Ldah r base plus value content h from to e =
      written-gives (Memory (address_op address.Ldah) r base plus) h r (word_at (register s base + word_from (plus *ℤ pos 65536))) content to (sum-below (register s base + word_from (plus *ℤ pos 65536))) refl
      (moves_correspond c.extents m c.owner (memory_bytes p s) h.frame.memory_is value content (register s base) (plus *ℤ pos 65536) (stands-in (Plain (Memory (address_op address.Ldah) r base plus) ∷ rest) base value h from) e)

  number-word : (number : ℤ) → IsDisplacement number → word_at (0 + word_from number) ≡ word_from number
  number-word (pos n) d = let e : word_at (0 + n) ≡ n = omega (arith, d) in e
  number-word (negsuc n) d = let e : word_at (0 + (2 ^ 64 - suc n)) ≡ 2 ^ 64 - suc n = omega (arith, d) in e

  pub sets_are_done : (r : ℕ) (number : ℤ) → StandsFor p there (Plain (Memory Lda r 31 number) ∷ rest) end c m known store s → IsWritable c.shape r → IsDisplacement number → GivesRegister p there rest end c m known store s r (word_content (word_from number))
  sets_are_done r number h value d =
      written-gives (Memory Lda r 31 number) h r (word_at (0 + word_from number)) (word_content (word_from number)) value (sum-below (0 + word_from number)) refl (number-word number d)

  -- ---- branches

  no-link : (op : TempBranchOp) → links (branch_op op) ≡ false
  no-link Blbc = refl
  no-link Beq = refl
  no-link Blt = refl
  no-link Ble = refl
  no-link Blbs = refl
  no-link Bne = refl
  no-link Bge = refl
  no-link Bgt = refl

  pub branches_are_done : ((r : ℕ) → known r ≡ true → r < 28) → (op : TempBranchOp) (r l : ℕ) (taken : Bool) → StandsFor p there (Branch (branch_op op) r l ∷ rest) end c m known store s → known r ≡ true → branch_test op m (store (Reg r)) ≡ Some taken → BranchIsDone p there rest end c m known store l taken s
  branches_are_done low op r l taken h k e =
      let value = low r k in
      let d = branches_step p there h.word (branch_op op) r l rest end s (stands p there h.word (Branch (branch_op op) r l) rest end s h.is_at) (omega (arith, value)) in
      let test : is_branch_taken (branch_op op) (register s r) ≡ taken = tests_correspond c.extents m c.owner (memory_bytes p s) h.frame.memory_is op (store (Reg r)) (register s r) taken (h.registers r k) e in
      let same = λ (q : ℕ) (ne : q ≢ 28). d.registers q ne ∙ ap (λ b. register (if b then with_register r (word_address d.next) s else s) q) (no-link op) in
      record {
        to = d.to;
        next = d.next;
        within = d.within;
        comes = d.comes;
        some = d.some;
        behind = d.items_at;
        pc = d.pc ∙ ap (λ b. word_address (if b then there l else d.next)) test;
        stands = λ items last at. record {
          word = if taken then there l else d.next;
          is_at = record {
            lawful = h.is_at.lawful;
            labels = h.is_at.labels;
            items_at = at;
            pc = d.pc ∙ ap (λ b. word_address (if b then there l else d.next)) test;
            registers = d.same.registers ∙ h.is_at.registers;
            words = d.words h.is_at.words;
            parts = parts-same p s d.to d.same h.is_at.parts;
            bytes = λ y. subst (λ (b : Bytes). b y < 256) (sym (bytes-same p s d.to d.same)) (h.is_at.bytes y);
          };
          stack = same 30 (λ f. omega (arith, f)) ∙ h.stack;
          frame = subst (λ b. FrameAndMemory c.extents m c.owner b c.sp c.depth c.own c.shape store) (sym (bytes-same p s d.to d.same)) h.frame;
          registers = λ q f. subst (ContentIs c.extents (store (Reg q))) (sym (same q (λ g. let lt = low q f in omega (arith, g, lt)))) (h.registers q f);
          reached = λ y own. reached-same p s d.to d.same y ∙ h.reached y own;
        };
        input = d.same.input;
        output = d.same.output;
        kept = kept-same p c s d.to (reached-same p s d.to d.same) (bytes-same p s d.to d.same) (λ q from to f. same q (λ g. omega (arith, g, to)));
      }
