-- Loads and stores as steps of the machine.
use Rattle.std.proofs.Common.{◌≡◌, ◌≢◌, ℕ, ◌+◌, ◌-◌, ◌%◌, ◌^◌, ◌<◌, ◌≤◌, ◌⊎◌, length, Some, sym, ap, ◌∙◌, subst, arith, inl, inr, ⊎_elim}
use Rattle.std.specs.Prelude.{ℤ}
use Rattle.std.specs.Int.{w8, w16, w32, w64, from_le_bytes}
use Rattle.std.proofs.lemmas.Bool.{cases_lt}
use Rattle.alpha_isa.specs.Arithmetic.{sign_extension}
use Rattle.alpha_isa.specs.Program.{Program}
use Rattle.alpha_isa.specs.State.{State, register, with_register, bytes_at, with_bytes}
use Rattle.alpha_isa.specs.Step.{memory_step, next_instruction, load_into, go_on_stored, memory_address}
use Rattle.mem_model.specs.Memory.{Memory, IsWidth}
use Rattle.temp_ir.specs.declared.operation.LoadOp.{LoadOp}
use Rattle.temp_ir.specs.declared.operation.LoadOp.TheVariants.{Ldbu, Ldwu, Ldl, Ldq}
use Rattle.temp_ir.specs.declared.operation.StoreOp.{StoreOp}
use Rattle.temp_ir.specs.declared.operation.StoreOp.TheVariants.{Stb, Stw, Stl, Stq}
use Rattle.temp_ir.specs.Operations.{load_op, store_op}
use Rattle.alloc_model.specs.Contents.{Content, load_width, store_width, loaded_content, stored_memory}
use Rattle.frame_memory.specs.Bytes.{Bytes, bytes_from, low_bytes, number_from}
use Rattle.frame_memory.specs.Relation.{Extents, Owners, OfObject, Nobody, MemoryIs}
use Rattle.frame_memory.specs.Machine.{memory_bytes, IsReached}
use Rattle.alpha_isa.proofs.Arithmetic.{sign_extended-below}
use Rattle.frame_memory.proofs.Numbers.{number_from-low, bytes_from-length, bytes_from-are, low_bytes-length, put-out}
use Rattle.frame_memory.proofs.Machine.{loads_read_bytes, stores_put_bytes, numbers_of_accesses}
use Rattle.frame_memory.specs.flat_operations.Contents.{ContentIs}
use Rattle.frame_memory.specs.flat_operations.Laws.{loaded_word}
use Rattle.frame_memory.specs.flat_operations.Steps.{HasMemory, IsLoadStep, IsStoreStep}
use Rattle.frame_memory.proofs.FlatOperations.Accesses.{load-width, store-width, loads_correspond, stores_correspond}

-- the word of a load
bytes-below : (m : Bytes) (a count : ℕ) → ((y : ℕ) → m y < 256) → number_from (bytes_from m a count) < 256 ^ count
bytes-below m a count small = subst (λ k. number_from (bytes_from m a count) < 256 ^ k) (bytes_from-length m a count) (number_from-low (bytes_from m a count) (bytes_from-are m small a count))

loaded-below : (op : LoadOp) (n : ℕ) → n < 256 ^ load_width op → loaded_word op n < 2 ^ 64
loaded-below Ldbu n h = let k : n < 256 = h in omega (arith, k)
loaded-below Ldwu n h = let k : n < 256 ^ 2 = h in omega (arith, k)
loaded-below Ldl n h = sign_extended-below w32 n (omega arith)
loaded-below Ldq n h = let k : n < 256 ^ 8 = h in omega (arith, k)

module _ (xs : Extents) (memory : Memory) (owner : Owners) (p : Program) (s : State) (h : HasMemory xs memory owner p s) where
  -- what an object owns may be accessed
  reach-range : (o a width : ℕ) → a % width ≡ 0 → ((i : ℕ) → i < width → owner (a + i) ≡ OfObject o) → IsReached p s a width
  reach-range o a width even own = record { aligned = even; reached = λ i lt. h.reached (a + i) (λ e. clash (sym (own i lt) ∙ e)) }
    where
      clash : OfObject o ≡ Nobody → ⊥
      clash e = cc

  loaded : (op : LoadOp) (ra rb : ℕ) (plus : ℤ) → bytes_at p s (memory_address s rb plus) (load_width op) ≡ Some (bytes_from (memory_bytes p s) (memory_address s rb plus) (load_width op)) → memory_step p (load_op op) ra rb plus s ≡ next_instruction (with_register ra (loaded_word op (number_from (bytes_from (memory_bytes p s) (memory_address s rb plus) (load_width op)))) s)
  loaded Ldbu ra rb plus e = ap (λ o. load_into (from_le_bytes w8) ra o s) e ∙ ap (λ n. next_instruction (with_register ra n s)) (numbers_of_accesses.byte (memory_bytes p s) (memory_address s rb plus))
  loaded Ldwu ra rb plus e = ap (λ o. load_into (from_le_bytes w16) ra o s) e ∙ ap (λ n. next_instruction (with_register ra n s)) (numbers_of_accesses.word (memory_bytes p s) (memory_address s rb plus))
  loaded Ldl ra rb plus e = ap (λ o. load_into (λ bytes. sign_extension w32 (from_le_bytes w32 bytes)) ra o s) e ∙ ap (λ n. next_instruction (with_register ra (sign_extension w32 n) s)) (numbers_of_accesses.long (memory_bytes p s) (memory_address s rb plus))
  loaded Ldq ra rb plus e = ap (λ o. load_into (from_le_bytes w64) ra o s) e ∙ ap (λ n. next_instruction (with_register ra n s)) (numbers_of_accesses.quad (memory_bytes p s) (memory_address s rb plus))

  pub loads_step : (op : LoadOp) (ra rb : ℕ) (plus : ℤ) (pointer c : Content) → ContentIs xs pointer (register s rb) → loaded_content memory op pointer plus ≡ Some c → IsLoadStep xs p op ra rb plus s c
  loads_step op ra rb plus pointer c is e =
      let l = loads_correspond xs memory owner (memory_bytes p s) h.memory_is op pointer c (register s rb) plus is e in
      let reach = reach-range (l.pointer).object (memory_address s rb plus) (load_width op) l.range.aligned l.range.owned in
      record {
        word = loaded_word op (number_from (bytes_from (memory_bytes p s) (memory_address s rb plus) (load_width op)));
        goes = loaded op ra rb plus (loads_read_bytes p s h.parts (memory_address s rb plus) (load_width op) (load-width op) reach);
        small = loaded-below op (number_from (bytes_from (memory_bytes p s) (memory_address s rb plus) (load_width op)))
            (bytes-below (memory_bytes p s) (memory_address s rb plus) (load_width op) h.memory_is.bytes);
        content = l.content;
      }

  stored : (op : StoreOp) (ra rb : ℕ) (plus : ℤ) (t : State) → with_bytes p s (memory_address s rb plus) (low_bytes (store_width op) (register s ra)) ≡ Some t → memory_step p (store_op op) ra rb plus s ≡ next_instruction t
  stored Stb ra rb plus t e = ap (λ bs. go_on_stored (with_bytes p s (memory_address s rb plus) bs) s) (numbers_of_accesses.byte_of (register s ra)) ∙ ap (λ o. go_on_stored o s) e
  stored Stw ra rb plus t e = ap (λ bs. go_on_stored (with_bytes p s (memory_address s rb plus) bs) s) (numbers_of_accesses.word_of (register s ra)) ∙ ap (λ o. go_on_stored o s) e
  stored Stl ra rb plus t e = ap (λ bs. go_on_stored (with_bytes p s (memory_address s rb plus) bs) s) (numbers_of_accesses.long_of (register s ra)) ∙ ap (λ o. go_on_stored o s) e
  stored Stq ra rb plus t e = ap (λ bs. go_on_stored (with_bytes p s (memory_address s rb plus) bs) s) (numbers_of_accesses.quad_of (register s ra)) ∙ ap (λ o. go_on_stored o s) e

  pub stores_step : (new : Memory) (op : StoreOp) (ra rb : ℕ) (plus : ℤ) (value pointer : Content) → ContentIs xs value (register s ra) → ContentIs xs pointer (register s rb) → stored_memory memory op value pointer plus ≡ Some new → IsStoreStep xs new owner p op ra rb plus s
  unfolding memory_bytes reach-range low_bytes
  stores_step new op ra rb plus value pointer v is e =
      let l = stores_correspond xs memory owner (memory_bytes p s) h.memory_is new op value pointer (register s ra) (register s rb) plus v is e in
      let reach = reach-range (l.pointer).object (memory_address s rb plus) (store_width op) l.range.aligned l.range.owned in
      let len : length (low_bytes (store_width op) (register s ra)) ≡ store_width op = low_bytes-length (store_width op) (register s ra) in
      let t = stores_put_bytes p s h.parts (memory_address s rb plus) (low_bytes (store_width op) (register s ra)) (subst IsWidth (sym len) (store-width op)) (subst (IsReached p s (memory_address s rb plus)) (sym len) reach) in
      record {
        to = record (t.0) { pc = (t.0).pc + 4 };
        goes = stored op ra rb plus t.0 t.1;
        memory = record {
          parts = record { data_below = t.2.parts.data_below };
          memory_is = subst (MemoryIs xs new owner) (sym t.2.bytes) l.memory;
          reached = λ y own. t.2.reached y ∙ h.reached y own;
        };
        pc = ap (λ n. n + 4) t.2.pc;
        registers = t.2.registers;
        input = t.2.input;
        output = t.2.output;
        reach = t.2.reached;
        others = λ y free. ap (λ (b : Bytes). b y) t.2.bytes ∙ put-out (low_bytes (store_width op) (register s ra)) (memory_bytes p s) (memory_address s rb plus) y (outside y free len l.pointer.object l.range.owned);
      }
    where
      outside : (y : ℕ) → ((o : ℕ) → owner y ≢ OfObject o) → length (low_bytes (store_width op) (register s ra)) ≡ store_width op → (o : ℕ) → ((i : ℕ) → i < store_width op → owner (memory_address s rb plus + i) ≡ OfObject o) → (y < memory_address s rb plus) ⊎ (memory_address s rb plus + length (low_bytes (store_width op) (register s ra)) ≤ y)
      outside y free len o own = ⊎_elim inl (λ above. ⊎_elim (λ below. absurd (clash above below)) inr (cases_lt y (memory_address s rb plus + length (low_bytes (store_width op) (register s ra))))) (cases_lt y (memory_address s rb plus))
        where
          clash : memory_address s rb plus ≤ y → y < memory_address s rb plus + length (low_bytes (store_width op) (register s ra)) → ⊥
          clash above below =
              let e : memory_address s rb plus + (y - memory_address s rb plus) ≡ y = omega arith in
              let n = len in
              free o (ap owner (sym e) ∙ own (y - memory_address s rb plus) (omega (arith, n)))
