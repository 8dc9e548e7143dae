-- What the machine does at the items that reach its frame.
use Rattle.std.proofs.Common.{◌≡◌, ◌≢◌, ℕ, suc, ◌+◌, ◌-◌, ◌*◌, ◌^◌, ◌<◌, ◌≤◌, Bool, true, false, List, [], ◌∷◌, ◌++◌, length, refl, sym, ap, ◌∙◌, subst, arith, inl, inr}
use Rattle.std.specs.Prelude.{◌==◌, ◌||◌, ◌&&◌, nat_lt, nat_le, ℤ, pos, negsuc, ◌-ℤ◌, ◌*ℤ◌, slice_index, bit_or, if◌then◌else◌}
use Rattle.std.specs.Int.{w64, from_le_bytes, to_le_bytes}
use Rattle.std.proofs.lemmas.Int.{ints}
use Rattle.std.proofs.lemmas.Bool.{cases_eq, eqb-true}
use Rattle.std.proofs.lemmas.Nat.{or_shifted}
use Rattle.alpha_isa.specs.declared.insn.Fields.{Fields}
use Rattle.alpha_isa.specs.declared.insn.Fields.TheVariants.{Memory, Operate}
use Rattle.alpha_isa.specs.declared.insn.Operand.TheVariants.{Reg}
use Rattle.alpha_isa.specs.declared.insn.MemoryOp.TheVariants.{Lda, Ldah, Ldq, Stq}
use Rattle.alpha_isa.specs.declared.insn.OperateOp.TheVariants.{Bis}
use Rattle.alpha_isa.specs.Arithmetic.{word_at, word_from}
use Rattle.alpha_isa.specs.Program.{Program, data_start, stack_start}
use Rattle.alpha_isa.specs.State.{State, register, with_register, bytes_at, with_bytes}
use Rattle.alpha_isa.specs.Step.{exec, Goes, memory_address, insn_step, load_into, go_on_stored, next_instruction}
use Rattle.alpha_items.specs.declared.item.AsmItem.{AsmItem}
use Rattle.alpha_items.specs.declared.item.AsmItem.TheVariants.{Plain}
use Rattle.alpha_items.specs.Words.{high_of, most_address}
use Rattle.frame_steps.specs.item_steps.Standing.{Labels}
use Rattle.frame_steps.specs.item_steps.Steps.{Comes, StandsAt, SameElse}
use Rattle.frame_steps.proofs.ItemSteps.Steps.{steps_add_up, plain_steps, same-with, pc-with, read-same, read-other, same-through, same-at}
use Rattle.frame_memory.specs.Bytes.{Bytes, bytes_from, put_bytes, low_bytes, number_from}
use Rattle.frame_memory.specs.Machine.{memory_bytes, is_reached, HasParts, IsReached}
use Rattle.frame_memory.proofs.Numbers.{low_bytes-length, low_bytes-are, number_from-low, bytes_from-length, bytes_from-are, put-small}
use Rattle.frame_memory.proofs.Machine.{loads_read_bytes, stores_put_bytes, numbers_of_accesses}
use Rattle.frame_steps.specs.frame_accesses.Items.{near_size, frame_load, frame_store, frame_address, register_move}
use Rattle.frame_steps.specs.frame_accesses.Laws.{IsAt, HasCome, IsOffset, IsValueRegister, LoadDone, StoreDone, WordDone}

-- ---- states with the same memory

-- the bytes of two parts, by their addresses
seen : Program → (first second : List ℕ) → Bytes
seen p first second y =
    if nat_le (data_start p) y && nat_lt y (data_start p + length first) then slice_index first (y - data_start p)
    else if nat_le (stack_start p) y && nat_lt y (stack_start p + length second) then slice_index second (y - stack_start p) else 0

bytes-seen : (p : Program) (s : State) → memory_bytes p s ≡ seen p s.data_bytes s.stack_bytes
unfolding memory_bytes seen
bytes-seen p s = refl

pub bytes-same : (p : Program) (s t : State) → SameElse s t → memory_bytes p t ≡ memory_bytes p s
bytes-same p s t h = bytes-seen p t ∙ ap (λ d. seen p d t.stack_bytes) h.data_bytes ∙ ap (seen p s.data_bytes) h.stack_bytes ∙ sym (bytes-seen p s)

pub reached-same : (p : Program) (s t : State) → SameElse s t → (y : ℕ) → is_reached p t y ≡ is_reached p s y
reached-same p s t h y =
    ap (λ d. (nat_le (data_start p) y && nat_lt y (data_start p + length d)) || (nat_le (stack_start p) y && nat_lt y (stack_start p + length t.stack_bytes))) h.data_bytes
    ∙ ap (λ d. (nat_le (data_start p) y && nat_lt y (data_start p + length s.data_bytes)) || (nat_le (stack_start p) y && nat_lt y (stack_start p + length d))) h.stack_bytes

pub parts-same : (p : Program) (s t : State) → SameElse s t → HasParts p s → HasParts p t
parts-same p s t h parts = record { data_below = subst (λ d. data_start p + length d ≤ stack_start p) (sym h.data_bytes) parts.data_below }

-- ---- one instruction that writes a register

-- a state in which a register has another word
pub record WritesWord (p : Program) (there : Labels) (rest : List AsmItem) (end r v : ℕ) (s : State) : Type 0 where
  pub to : State
  pub come : HasCome p there rest end s to
  pub here : register to r ≡ v
  pub others : (q : ℕ) → q ≢ r → register to q ≡ register s q
  pub bytes : memory_bytes p to ≡ memory_bytes p s

pub stands : (p : Program) (there : Labels) (w : ℕ) (i : AsmItem) (rest : List AsmItem) (end : ℕ) (s : State) → IsAt p there w (i ∷ rest) end s → StandsAt p there w i rest end s
stands p there w i rest end s h = record { lawful = h.lawful; labels = h.labels; items_at = h.items_at; pc = h.pc; registers = h.registers }

pub word-written : (p : Program) (there : Labels) (w : ℕ) (insn : Fields) (rest : List AsmItem) (end r v : ℕ) (s : State) → IsAt p there w (Plain insn ∷ rest) end s → r < 31 → v < 2 ^ 64 → insn_step p insn s ≡ next_instruction (with_register r v s) → WritesWord p there rest end r v s
word-written p there w insn rest end r v s h lt small e =
    let u = with_register r v s in
    let t = record u { pc = u.pc + 4 } in
    let b = plain_steps p there w insn rest end s t (stands p there w (Plain insn) rest end s h) e (ap (λ n. n + 4) (pc-with r v s)) in
    let same : SameElse s t = same-through s u t (same-with r v s) (same-at u t.pc) in
    let here : register t r ≡ v = read-same r v s lt h.registers in
    record {
      to = t;
      come = record {
        comes = b.comes;
        next = b.next;
        is_at = record {
          lawful = h.lawful;
          labels = h.labels;
          items_at = b.items_at;
          pc = b.pc;
          registers = same.registers ∙ h.registers;
          words = λ q. elim (cases_eq q r) [
            | inl is ↦ subst (λ k. register t k < 2 ^ 64) (sym is) (subst (λ k. k < 2 ^ 64) (sym here) small)
            | inr ne ↦ subst (λ k. k < 2 ^ 64) (sym (read-other r q v s ne)) (h.words q)
          ];
          parts = parts-same p s t same h.parts;
          bytes = λ y. subst (λ (b : Bytes). b y < 256) (sym (bytes-same p s t same)) (h.bytes y);
        };
        input = same.input;
        output = same.output;
        reached = reached-same p s t same;
      };
      here = here;
      others = λ q ne. read-other r q v s ne;
      bytes = bytes-same p s t same;
    }

-- ---- far offsets

high-sum : (sp offset : ℕ) → offset < most_address → word_at (sp + word_from (pos (high_of offset) *ℤ pos 65536)) ≡ word_at (sp + high_of offset * 65536)
high-sum sp offset small = refl

far-sum : (z : ℤ) (sp offset high : ℕ) → z ≡ pos offset -ℤ pos high → sp + offset < 2 ^ 64 → offset < 2 ^ 63 → high < 2 ^ 63 → word_at (word_at (sp + high) + word_from z) ≡ sp + offset
far-sum (pos d) sp offset high e small a b =
    let f : d + high ≡ offset = omega (arith, ints, e) in
    let g : word_at (word_at (sp + high) + d) ≡ sp + offset = omega (arith, f) in g
far-sum (negsuc d) sp offset high e small a b =
    let f : offset + suc d ≡ high = omega (arith, ints, e) in
    let g : word_at (word_at (sp + high) + (2 ^ 64 - suc d)) ≡ sp + offset = omega (arith, f) in g

near-sum : (sp offset : ℕ) → sp + offset < 2 ^ 64 → word_at (sp + word_from (pos offset)) ≡ sp + offset
near-sum sp offset small = let g : word_at (sp + offset) ≡ sp + offset = omega arith in g

-- register 29 has the most of the sum
record WayMade (p : Program) (there : Labels) (rest : List AsmItem) (end offset : ℕ) (s : State) : Type 0 where
  made : WritesWord p there rest end 29 (word_at (register s 30 + high_of offset * 65536)) s
  sum : memory_address made.to 29 (pos offset -ℤ pos (high_of offset * 65536)) ≡ register s 30 + offset

way-made : (p : Program) (there : Labels) (w : ℕ) (rest : List AsmItem) (end offset : ℕ) (s : State) → IsAt p there w (Plain (Memory Ldah 29 30 (pos (high_of offset))) ∷ rest) end s → IsOffset s offset → WayMade p there rest end offset s
way-made p there w rest end offset s h o =
    let small = o.near in
    let fit = o.small in
    let m = word-written p there w (Memory Ldah 29 30 (pos (high_of offset))) rest end 29 (word_at (register s 30 + high_of offset * 65536)) s h (omega arith) (omega arith) refl in
    record {
      made = m;
      sum = ap (λ k. word_at (k + word_from (pos offset -ℤ pos (high_of offset * 65536)))) m.here ∙ far-sum (pos offset -ℤ pos (high_of offset * 65536)) (register s 30) offset (high_of offset * 65536) refl fit (omega arith) (omega arith);
    }

pub stays : (p : Program) (s : State) → Comes p s s
unfolding exec
stays p s = record { steps = 0; run = refl; paid = omega arith }

come-through : (p : Program) (there : Labels) (mid rest : List AsmItem) (end : ℕ) (s t u : State) → HasCome p there mid end s t → HasCome p there rest end t u → HasCome p there rest end s u
come-through p there mid rest end s t u a b = record {
  comes = steps_add_up p s t u a.comes b.comes;
  next = b.next;
  is_at = b.is_at;
  input = b.input ∙ a.input;
  output = b.output ∙ a.output;
  reached = λ y. b.reached y ∙ a.reached y;
}

-- ---- loads

loaded-step : (p : Program) (r rb : ℕ) (disp : ℤ) (a : ℕ) (s : State) → HasParts p s → memory_address s rb disp ≡ a → IsReached p s a 8 → insn_step p (Memory Ldq r rb disp) s ≡ next_instruction (with_register r (number_from (bytes_from (memory_bytes p s) a 8)) s)
loaded-step p r rb disp a s parts e reach =
    ap (λ k. load_into (from_le_bytes w64) r (bytes_at p s k 8) s) e
    ∙ ap (λ o. load_into (from_le_bytes w64) r o s) (loads_read_bytes p s parts a 8 (inr (inr (inr refl))) reach)
    ∙ ap (λ n. next_instruction (with_register r n s)) (numbers_of_accesses.quad (memory_bytes p s) a)

word-below : (m : Bytes) (a : ℕ) → ((y : ℕ) → m y < 256) → number_from (bytes_from m a 8) < 2 ^ 64
word-below m a small =
    let n : length (bytes_from m a 8) ≡ 8 = bytes_from-length m a 8 in
    let h : number_from (bytes_from m a 8) < 256 ^ 8 = subst (λ k. number_from (bytes_from m a 8) < 256 ^ k) n (number_from-low (bytes_from m a 8) (bytes_from-are m small a 8)) in
    h

-- reaching the same bytes from another state
reach-again : (p : Program) (s t : State) (a : ℕ) → ((y : ℕ) → is_reached p t y ≡ is_reached p s y) → IsReached p s a 8 → IsReached p t a 8
reach-again p s t a same r = record { aligned = r.aligned; reached = λ i lt. same (a + i) ∙ r.reached i lt }

pub frame_loads : (p : Program) (there : Labels) (w r offset : ℕ) (rest : List AsmItem) (end : ℕ) (s : State) → IsAt p there w (frame_load r offset ++ rest) end s → IsValueRegister r → IsOffset s offset → IsReached p s (register s 30 + offset) 8 → LoadDone p there rest end r (register s 30 + offset) s
frame_loads p there w r offset rest end s h value o reach = by_test (nat_lt offset near_size) h
  where
    by_test : (b : Bool) → IsAt p there w ((if b then Plain (Memory Ldq r 30 (pos offset)) ∷ [] else Plain (Memory Ldah 29 30 (pos (high_of offset))) ∷ Plain (Memory Ldq r 29 (pos offset -ℤ pos (high_of offset * 65536))) ∷ []) ++ rest) end s → LoadDone p there rest end r (register s 30 + offset) s
    by_test true h =
        let e = loaded-step p r 30 (pos offset) (register s 30 + offset) s h.parts (near-sum (register s 30) offset o.small) reach in
        let x = word-written p there w (Memory Ldq r 30 (pos offset)) rest end r (number_from (bytes_from (memory_bytes p s) (register s 30 + offset) 8)) s h (omega (arith, value)) (word-below (memory_bytes p s) (register s 30 + offset) h.bytes) e in
        record { to = x.to; come = x.come; here = x.here; others = λ q ne far. x.others q ne; bytes = x.bytes }
    by_test false h =
        let way = way-made p there w (Plain (Memory Ldq r 29 (pos offset -ℤ pos (high_of offset * 65536))) ∷ rest) end offset s h o in
        let t = way.made.to in
        let e = loaded-step p r 29 (pos offset -ℤ pos (high_of offset * 65536)) (register s 30 + offset) t way.made.come.is_at.parts way.sum (reach-again p s t (register s 30 + offset) way.made.come.reached reach) in
        let x = word-written p there way.made.come.next (Memory Ldq r 29 (pos offset -ℤ pos (high_of offset * 65536))) rest end r (number_from (bytes_from (memory_bytes p t) (register s 30 + offset) 8)) t way.made.come.is_at (omega (arith, value)) (word-below (memory_bytes p t) (register s 30 + offset) way.made.come.is_at.bytes) e in
        record {
          to = x.to;
          come = come-through p there (Plain (Memory Ldq r 29 (pos offset -ℤ pos (high_of offset * 65536))) ∷ rest) rest end s t x.to way.made.come x.come;
          here = x.here ∙ ap (λ (m : Bytes). number_from (bytes_from m (register s 30 + offset) 8)) way.made.bytes;
          others = λ q ne far. x.others q ne ∙ way.made.others q far;
          bytes = x.bytes ∙ way.made.bytes;
        }

-- ---- addresses

pub frame_addresses : (p : Program) (there : Labels) (w r offset : ℕ) (rest : List AsmItem) (end : ℕ) (s : State) → IsAt p there w (frame_address r offset ++ rest) end s → IsValueRegister r → IsOffset s offset → WordDone p there rest end r (register s 30 + offset) s
frame_addresses p there w r offset rest end s h value o = by_test (nat_lt offset near_size) h
  where
    by_test : (b : Bool) → IsAt p there w ((if b then Plain (Memory Lda r 30 (pos offset)) ∷ [] else Plain (Memory Ldah 29 30 (pos (high_of offset))) ∷ Plain (Memory Lda r 29 (pos offset -ℤ pos (high_of offset * 65536))) ∷ []) ++ rest) end s → WordDone p there rest end r (register s 30 + offset) s
    by_test true h =
        let e = ap (λ n. next_instruction (with_register r n s)) (near-sum (register s 30) offset o.small) in
        let x = word-written p there w (Memory Lda r 30 (pos offset)) rest end r (register s 30 + offset) s h (omega (arith, value)) o.small e in
        record { to = x.to; come = x.come; here = x.here; others = λ q ne far. x.others q ne; bytes = x.bytes }
    by_test false h =
        let way = way-made p there w (Plain (Memory Lda r 29 (pos offset -ℤ pos (high_of offset * 65536))) ∷ rest) end offset s h o in
        let t = way.made.to in
        let e = ap (λ n. next_instruction (with_register r n t)) way.sum in
        let x = word-written p there way.made.come.next (Memory Lda r 29 (pos offset -ℤ pos (high_of offset * 65536))) rest end r (register s 30 + offset) t way.made.come.is_at (omega (arith, value)) o.small e in
        record {
          to = x.to;
          come = come-through p there (Plain (Memory Lda r 29 (pos offset -ℤ pos (high_of offset * 65536))) ∷ rest) rest end s t x.to way.made.come x.come;
          here = x.here;
          others = λ q ne far. x.others q ne ∙ way.made.others q far;
          bytes = x.bytes ∙ way.made.bytes;
        }

-- ---- moves

zero-or : (n : ℕ) → n < 2 ^ 64 → bit_or 0 n ≡ n
zero-or n small = let none : 0 + n ≡ n = omega arith in or_shifted 0 64 n small ∙ none

pub register_moves : (p : Program) (there : Labels) (w from to : ℕ) (rest : List AsmItem) (end : ℕ) (s : State) → IsAt p there w (register_move from to ++ rest) end s → IsValueRegister to → WordDone p there rest end to (register s from) s
register_moves p there w from to rest end s h value = by_test (from == to) refl h
  where
    by_test : (b : Bool) → (from == to) ≡ b → IsAt p there w ((if b then [] else Plain (Operate Bis 31 (Reg from) to) ∷ []) ++ rest) end s → WordDone p there rest end to (register s from) s
    by_test true same h = record {
      to = s;
      come = record { comes = stays p s; next = w; is_at = h; input = refl; output = refl; reached = λ y. refl };
      here = ap (register s) (sym (eqb-true from to same));
      others = λ q ne far. refl;
      bytes = refl;
    }
    by_test false same h =
        let e = ap (λ n. next_instruction (with_register to n s)) (zero-or (register s from) (h.words from)) in
        let x = word-written p there w (Operate Bis 31 (Reg from) to) rest end to (register s from) s h (omega (arith, value)) (h.words from) e in
        record { to = x.to; come = x.come; here = x.here; others = λ q ne far. x.others q ne; bytes = x.bytes }

-- ---- stores

-- a state with a word put in its memory
record PutsWord (p : Program) (there : Labels) (rest : List AsmItem) (end a v : ℕ) (s : State) : Type 0 where
  to : State
  come : HasCome p there rest end s to
  others : (q : ℕ) → register to q ≡ register s q
  bytes : memory_bytes p to ≡ put_bytes (memory_bytes p s) a (low_bytes 8 v)

word-put : (p : Program) (there : Labels) (w r rb : ℕ) (disp : ℤ) (a : ℕ) (rest : List AsmItem) (end : ℕ) (s : State) → IsAt p there w (Plain (Memory Stq r rb disp) ∷ rest) end s → memory_address s rb disp ≡ a → IsReached p s a 8 → PutsWord p there rest end a (register s r) s
unfolding memory_bytes
word-put p there w r rb disp a rest end s h e reach =
    let len : length (low_bytes 8 (register s r)) ≡ 8 = low_bytes-length 8 (register s r) in
    let put = stores_put_bytes p s h.parts a (low_bytes 8 (register s r)) (inr (inr (inr len))) (subst (IsReached p s a) (sym len) reach) in
    let u = put.0 in
    let t = record u { pc = u.pc + 4 } in
    let step : insn_step p (Memory Stq r rb disp) s ≡ Goes t =
    ap (λ k. go_on_stored (with_bytes p s k (to_le_bytes w64 (register s r))) s) e
    ∙ ap (λ bs. go_on_stored (with_bytes p s a bs) s) (numbers_of_accesses.quad_of (register s r)) ∙ ap (λ o. go_on_stored o s) put.1 in
    let b = plain_steps p there w (Memory Stq r rb disp) rest end s t (stands p there w (Plain (Memory Stq r rb disp)) rest end s h) step (ap (λ n. n + 4) put.2.pc) in
    record {
      to = t;
      come = record {
        comes = b.comes;
        next = b.next;
        is_at = record {
          lawful = h.lawful;
          labels = h.labels;
          items_at = b.items_at;
          pc = b.pc;
          registers = ap length put.2.registers ∙ h.registers;
          words = λ q. subst (λ rs. (if q == 31 then 0 else slice_index rs q) < 2 ^ 64) (sym put.2.registers) (h.words q);
          parts = record { data_below = put.2.parts.data_below };
          bytes = λ y. subst (λ (m : Bytes). m y < 256) (sym put.2.bytes) (put-small (low_bytes 8 (register s r)) (memory_bytes p s) a (low_bytes-are 8 (register s r)) h.bytes y);
        };
        input = put.2.input;
        output = put.2.output;
        reached = put.2.reached;
      };
      others = λ q. ap (λ rs. if q == 31 then 0 else slice_index rs q) put.2.registers;
      bytes = put.2.bytes;
    }

pub frame_stores : (p : Program) (there : Labels) (w r offset : ℕ) (rest : List AsmItem) (end : ℕ) (s : State) → IsAt p there w (frame_store r offset ++ rest) end s → IsValueRegister r → IsOffset s offset → IsReached p s (register s 30 + offset) 8 → StoreDone p there rest end r (register s 30 + offset) s
frame_stores p there w r offset rest end s h value o reach = by_test (nat_lt offset near_size) h
  where
    by_test : (b : Bool) → IsAt p there w ((if b then Plain (Memory Stq r 30 (pos offset)) ∷ [] else Plain (Memory Ldah 29 30 (pos (high_of offset))) ∷ Plain (Memory Stq r 29 (pos offset -ℤ pos (high_of offset * 65536))) ∷ []) ++ rest) end s → StoreDone p there rest end r (register s 30 + offset) s
    by_test true h =
        let x = word-put p there w r 30 (pos offset) (register s 30 + offset) rest end s h (near-sum (register s 30) offset o.small) reach in
        record { to = x.to; come = x.come; others = λ q far. x.others q; bytes = x.bytes }
    by_test false h =
        let way = way-made p there w (Plain (Memory Stq r 29 (pos offset -ℤ pos (high_of offset * 65536))) ∷ rest) end offset s h o in
        let t = way.made.to in
        let x = word-put p there way.made.come.next r 29 (pos offset -ℤ pos (high_of offset * 65536)) (register s 30 + offset) rest end t way.made.come.is_at way.sum (reach-again p s t (register s 30 + offset) way.made.come.reached reach) in
        let kept : register t r ≡ register s r = way.made.others r (λ e. omega (arith, e, value)) in
        record {
          to = x.to;
          come = come-through p there (Plain (Memory Stq r 29 (pos offset -ℤ pos (high_of offset * 65536))) ∷ rest) rest end s t x.to way.made.come x.come;
          others = λ q far. x.others q ∙ way.made.others q far;
          bytes = x.bytes ∙ ap (λ (m : Bytes). put_bytes m (register s 30 + offset) (low_bytes 8 (register t r))) way.made.bytes ∙ ap (λ n. put_bytes (memory_bytes p s) (register s 30 + offset) (low_bytes 8 n)) kept;
        }
