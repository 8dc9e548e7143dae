-- What a step keeps of the bounds.
use Rattle.std.proofs.Common.{◌≡◌, ℕ, zero, suc, ◌+◌, ◌-◌, ◌*◌, ◌/◌, ◌%◌, ◌^◌, ◌<◌, ◌⊎◌, Bool, true, false, not, List, [], ◌∷◌, ◌++◌, take, drop, length, get_or, Option, Some, None, refl, sym, subst, arith, inl, inr, ⊎_elim}
use Rattle.std.specs.Prelude.{◌==◌, nat_lt, ℤ, pos, ◌*ℤ◌, slice_get, slice_index, slice_set, option_and_then, if◌then◌else◌}
use Rattle.std.specs.Int.{w8, w16, w32, w64, from_le_bytes, to_le_bytes}
use Rattle.std.proofs.lemmas.Option.{slice_get_within}
use Rattle.alpha_isa.specs.declared.insn.Fields.{Fields}
use Rattle.alpha_isa.specs.declared.insn.Fields.TheVariants as fields
use Rattle.alpha_isa.specs.declared.insn.Operand.{Operand}
use Rattle.alpha_isa.specs.declared.insn.Operand.TheVariants.{Reg, Literal}
use Rattle.alpha_isa.specs.declared.insn.MemoryOp.{MemoryOp}
use Rattle.alpha_isa.specs.declared.insn.MemoryOp.TheVariants.{Lda, Ldah, Ldbu, Ldwu, Stw, Stb, Ldl, Ldq, Stl, Stq}
use Rattle.alpha_isa.specs.declared.insn.BranchOp.{BranchOp}
use Rattle.alpha_isa.specs.Arithmetic as effect
use Rattle.alpha_isa.specs.Arithmetic.{OperationEffect, Keeps, Overflows, word_at, sign_extension, operation_effect}
use Rattle.alpha_isa.specs.Lawful as lawful
use Rattle.alpha_isa.specs.Program.{Program, IsLawful, instruction_at, text_start, data_start, stack_start}
use Rattle.alpha_isa.specs.State.{State, register, with_register, operand_value, lies_in, byte_range, with_part, bytes_at, with_bytes}
use Rattle.alpha_isa.specs.Step.{MachineNext, Goes, Over, Done, Trap, Stuck, next_instruction, next_pc, load_into, go_on_stored, memory_step, branch_step, branch_target, is_branch_taken, links, operate_step, input_word, input_rest, service_step, pal_step, insn_step, fetched_step, step, go_on, exec, memory_address}
use Rattle.alpha_isa.specs.Words.{insn_of}
use Rattle.alpha_isa.proofs.Arithmetic.{sign_extended-below}
use Rattle.alpha_isa.proofs.Words.{decoded_word}
use Rattle.mem_model.specs.Bytes.{AreBytes}
use Rattle.frame_memory.proofs.Numbers.{low_bytes-are}
use Rattle.frame_memory.proofs.Machine.{numbers_of_accesses}
use Rattle.frame_steps.proofs.FrameInstructions.Words.{given-below}
use Rattle.frame_steps.specs.machine_bounds.Bounds.{IsBounded}

-- ---- lists of bytes

take-bytes : (n : ℕ) (bs : List ℕ) → AreBytes bs → AreBytes (take n bs)
take-bytes zero bs h = tt
take-bytes (suc n) [] h = tt
take-bytes (suc n) (b ∷ bs) h = (h.0, take-bytes n bs h.1)

drop-bytes : (n : ℕ) (bs : List ℕ) → AreBytes bs → AreBytes (drop n bs)
drop-bytes zero bs h = h
drop-bytes (suc n) [] h = tt
drop-bytes (suc n) (b ∷ bs) h = drop-bytes n bs h.1

append-bytes : (bs ds : List ℕ) → AreBytes bs → AreBytes ds → AreBytes (bs ++ ds)
append-bytes [] ds h k = k
append-bytes (b ∷ bs) ds h k = (h.0, append-bytes bs ds h.1 k)

part-bytes : (bytes new : List ℕ) (i : ℕ) → AreBytes bytes → AreBytes new → AreBytes (with_part bytes i new)
part-bytes bytes new i h k = append-bytes (take i bytes) (new ++ drop (i + length new) bytes) (take-bytes i bytes h) (append-bytes new (drop (i + length new) bytes) k (drop-bytes (i + length new) bytes h))

pub byte-at : (bs : List ℕ) (i : ℕ) → AreBytes bs → get_or bs i 0 < 256
byte-at [] i h = omega arith
byte-at (b ∷ bs) zero h = h.0
byte-at (b ∷ bs) (suc i) h = byte-at bs i h.1

byte-number : (bs : List ℕ) → AreBytes bs → from_le_bytes w8 bs < 2 ^ 64
byte-number bs h = omega (arith, byte-at bs 0 h)

word-number : (bs : List ℕ) → AreBytes bs → from_le_bytes w16 bs < 2 ^ 64
word-number bs h = omega (arith, byte-at bs 0 h, byte-at bs 1 h)

long-number : (bs : List ℕ) → AreBytes bs → sign_extension w32 (from_le_bytes w32 bs) < 2 ^ 64
long-number bs h = sign_extended-below w32 (from_le_bytes w32 bs) (omega arith)

quad-number : (bs : List ℕ) → AreBytes bs → from_le_bytes w64 bs < 2 ^ 64
quad-number bs h = omega (arith, byte-at bs 0 h, byte-at bs 1 h, byte-at bs 2 h, byte-at bs 3 h, byte-at bs 4 h, byte-at bs 5 h, byte-at bs 6 h, byte-at bs 7 h)

-- ---- states

-- where the machine stands after a step
abbrev NextIsBounded : MachineNext → Type 0
NextIsBounded (Goes t) = IsBounded t
NextIsBounded (Over h t) = Unit {0}

-- an element of a list with another one in it
set-index : (xs : List ℕ) (r v q : ℕ) → (slice_index (slice_set xs r v) q ≡ v) ⊎ (slice_index (slice_set xs r v) q ≡ slice_index xs q)
set-index [] r v q = inr refl
set-index (x ∷ xs) zero v zero = inl refl
set-index (x ∷ xs) zero v (suc q) = inr refl
set-index (x ∷ xs) (suc r) v zero = inr refl
set-index (x ∷ xs) (suc r) v (suc q) = set-index xs r v q

zero-or-below : (b : Bool) (v : ℕ) → v < 2 ^ 64 → (if b then 0 else v) < 2 ^ 64
zero-or-below true v lt = omega arith
zero-or-below false v lt = lt

written : (r v : ℕ) (s : State) → v < 2 ^ 64 → IsBounded s → IsBounded (with_register r v s)
written r v s lt h = split (r == 31)
  where
    split : (b : Bool) → IsBounded (if b then s else record s { registers = slice_set s.registers r v })
    split true = h
    split false = record {
      words = λ q. ⊎_elim
          (λ e. subst (λ n. (if q == 31 then 0 else n) < 2 ^ 64) (sym e) (zero-or-below (q == 31) v lt))
          (λ e. subst (λ n. (if q == 31 then 0 else n) < 2 ^ 64) (sym e) (h.words q))
          (set-index s.registers r v q);
      data_bytes = h.data_bytes;
      stack_bytes = h.stack_bytes;
      input = h.input;
    }

at-place : (pc : ℕ) (s : State) → IsBounded s → IsBounded (record s { pc = pc })
at-place pc s h = record { words = h.words; data_bytes = h.data_bytes; stack_bytes = h.stack_bytes; input = h.input }

sum-below : (n : ℕ) → word_at n < 2 ^ 64
sum-below n = omega arith

-- ---- loads and stores

module _ (p : Program) (s : State) (h : IsBounded s) where
  read : (value : List ℕ → ℕ) (ra a n : ℕ) → ((bs : List ℕ) → AreBytes bs → value bs < 2 ^ 64) → NextIsBounded (load_into value ra (bytes_at p s a n) s)
  read value ra a n below = by_tests (not (a % n == 0)) (lies_in a n (data_start p) s.data_bytes) (lies_in a n (stack_start p) s.stack_bytes)
    where
      by_tests : (b c d : Bool) → NextIsBounded (load_into value ra (if b then None else if c then Some (byte_range s.data_bytes (a - data_start p) n) else if d then Some (byte_range s.stack_bytes (a - stack_start p) n) else None) s)
      by_tests true c d = tt
      by_tests false true d =
          let v = value (byte_range s.data_bytes (a - data_start p) n) in
          at-place (next_pc (with_register ra v s)) (with_register ra v s) (written ra v s (below (byte_range s.data_bytes (a - data_start p) n) (take-bytes n (drop (a - data_start p) s.data_bytes) (drop-bytes (a - data_start p) s.data_bytes h.data_bytes))) h)
      by_tests false false true =
          let v = value (byte_range s.stack_bytes (a - stack_start p) n) in
          at-place (next_pc (with_register ra v s)) (with_register ra v s) (written ra v s (below (byte_range s.stack_bytes (a - stack_start p) n) (take-bytes n (drop (a - stack_start p) s.stack_bytes) (drop-bytes (a - stack_start p) s.stack_bytes h.stack_bytes))) h)
      by_tests false false false = tt

  stored : (a : ℕ) (new : List ℕ) → AreBytes new → NextIsBounded (go_on_stored (with_bytes p s a new) s)
  stored a new are = by_tests (not (a % length new == 0)) (lies_in a (length new) (data_start p) s.data_bytes) (lies_in a (length new) (stack_start p) s.stack_bytes)
    where
      by_tests : (b c d : Bool) → NextIsBounded (go_on_stored (if b then None else if c then Some (record s { data_bytes = with_part s.data_bytes (a - data_start p) new }) else if d then Some (record s { stack_bytes = with_part s.stack_bytes (a - stack_start p) new }) else None) s)
      by_tests true c d = tt
      by_tests false true d = record { words = h.words; data_bytes = part-bytes s.data_bytes new (a - data_start p) h.data_bytes are; stack_bytes = h.stack_bytes; input = h.input }
      by_tests false false true = record { words = h.words; data_bytes = h.data_bytes; stack_bytes = part-bytes s.stack_bytes new (a - stack_start p) h.stack_bytes are; input = h.input }
      by_tests false false false = tt

  set-register : (r v : ℕ) → v < 2 ^ 64 → NextIsBounded (next_instruction (with_register r v s))
  set-register r v lt = at-place (next_pc (with_register r v s)) (with_register r v s) (written r v s lt h)

  memory-bounded : (op : MemoryOp) (ra rb : ℕ) (disp : ℤ) → NextIsBounded (memory_step p op ra rb disp s)
  memory-bounded Lda ra rb disp = set-register ra (memory_address s rb disp) (omega arith)
  memory-bounded Ldah ra rb disp = set-register ra (memory_address s rb (disp *ℤ pos 65536)) (omega arith)
  memory-bounded Ldbu ra rb disp = read (from_le_bytes w8) ra (memory_address s rb disp) 1 byte-number
  memory-bounded Ldwu ra rb disp = read (from_le_bytes w16) ra (memory_address s rb disp) 2 word-number
  memory-bounded Ldl ra rb disp = read (λ bytes. sign_extension w32 (from_le_bytes w32 bytes)) ra (memory_address s rb disp) 4 long-number
  memory-bounded Ldq ra rb disp = read (from_le_bytes w64) ra (memory_address s rb disp) 8 quad-number
  memory-bounded Stb ra rb disp = stored (memory_address s rb disp) (to_le_bytes w8 (register s ra)) (subst AreBytes (sym (numbers_of_accesses.byte_of (register s ra))) (low_bytes-are 1 (register s ra)))
  memory-bounded Stw ra rb disp = stored (memory_address s rb disp) (to_le_bytes w16 (register s ra)) (subst AreBytes (sym (numbers_of_accesses.word_of (register s ra))) (low_bytes-are 2 (register s ra)))
  memory-bounded Stl ra rb disp = stored (memory_address s rb disp) (to_le_bytes w32 (register s ra)) (subst AreBytes (sym (numbers_of_accesses.long_of (register s ra))) (low_bytes-are 4 (register s ra)))
  memory-bounded Stq ra rb disp = stored (memory_address s rb disp) (to_le_bytes w64 (register s ra)) (subst AreBytes (sym (numbers_of_accesses.quad_of (register s ra))) (low_bytes-are 8 (register s ra)))

  -- ---- branches and jumps

  linked : (b : Bool) (ra : ℕ) → next_pc s < 2 ^ 64 → IsBounded (if b then with_register ra (next_pc s) s else s)
  linked true ra small = written ra (next_pc s) s small h
  linked false ra small = h

  branch-bounded : (op : BranchOp) (ra : ℕ) (disp : ℤ) → next_pc s < 2 ^ 64 → NextIsBounded (branch_step op ra disp s)
  branch-bounded op ra disp small = at-place (if is_branch_taken op (register s ra) then branch_target s disp else next_pc s) (if links op then with_register ra (next_pc s) s else s) (linked (links op) ra small)

  -- ---- operations

  effect-bounded : (e : OperationEffect) (rc : ℕ) → ((n : ℕ) → e ≡ effect.Gives n → n < 2 ^ 64) → NextIsBounded (operate_step e rc s)
  effect-bounded (effect.Gives n) rc below = set-register rc n (below n refl)
  effect-bounded Keeps rc below = at-place (next_pc s) s h
  effect-bounded Overflows rc below = tt

  operand-below : (rb : Operand) → lawful.IsOperand rb → operand_value s rb < 2 ^ 64
  operand-below (Reg r) is = h.words r
  operand-below (Literal n) is = omega (arith, is)

  -- ---- services

  word-in : (input : List ℕ) → AreBytes input → input_word input < 2 ^ 64
  word-in [] are = omega arith
  word-in (b ∷ bytes) are = let lt = are.0 in omega (arith, lt)

  rest-in : (input : List ℕ) → AreBytes input → AreBytes (input_rest input)
  rest-in [] are = tt
  rest-in (b ∷ bytes) are = are.1

  service-bounded : (number : ℕ) → NextIsBounded (service_step number s)
  service-bounded number = by_tests (number == 1) (number == 2) (number == 3)
    where
      taken : State
      taken = record s { input = input_rest s.input }

      by_tests : (b c d : Bool) → NextIsBounded (if b then Over (Done (register s 16 % 256)) s else if c then next_instruction (record s { output = s.output ++ (register s 16 % 256) ∷ [] }) else if d then next_instruction (with_register 0 (input_word s.input) (record s { input = input_rest s.input })) else Over (Stuck s.pc) s)
      by_tests true c d = tt
      by_tests false true d = record { words = h.words; data_bytes = h.data_bytes; stack_bytes = h.stack_bytes; input = h.input }
      by_tests false false true =
          at-place (next_pc (with_register 0 (input_word s.input) (record s { input = input_rest s.input }))) (with_register 0 (input_word s.input) (record s { input = input_rest s.input }))
          (written 0 (input_word s.input) (record s { input = input_rest s.input }) (word-in s.input h.input) (record { words = h.words; data_bytes = h.data_bytes; stack_bytes = h.stack_bytes; input = rest-in s.input h.input }))
      by_tests false false false = tt

  pal-bounded : (function : ℕ) → NextIsBounded (pal_step function s)
  pal-bounded function = by_tests (function == 0x83) (function == 0xAA)
    where
      by_tests : (b c : Bool) → NextIsBounded (if b then service_step (register s 0) s else if c then Over (Trap (register s 16)) s else Over (Stuck s.pc) s)
      by_tests true c = service-bounded (register s 0)
      by_tests false true = tt
      by_tests false false = tt

  insn-bounded : (insn : Fields) → lawful.AreLawfulFields insn → next_pc s < 2 ^ 64 → NextIsBounded (insn_step p insn s)
  insn-bounded (fields.Memory op ra rb disp) is small = memory-bounded op ra rb disp
  insn-bounded (fields.Branch op ra disp) is small = branch-bounded op ra disp small
  insn-bounded (fields.Jump op ra rb) is small = at-place (register s rb / 4 * 4) (with_register ra (next_pc s) s) (written ra (next_pc s) s small h)
  insn-bounded (fields.Operate op ra rb rc) is small = effect-bounded (operation_effect op (register s ra) (operand_value s rb)) rc (λ n e. given-below op (register s ra) (operand_value s rb) n (h.words ra) (operand-below rb is.1) e)
  insn-bounded (fields.Pal function) is small = pal-bounded function

-- ---- steps

-- where an instruction stands
record Stands (p : Program) (pc : ℕ) (insn : Fields) : Type 0 where
  decoded : lawful.AreLawfulFields insn
  small : pc + 4 < 2 ^ 64

stands-at : (p : Program) → IsLawful p → (pc : ℕ) (insn : Fields) → instruction_at p pc ≡ Some insn → Stands p pc insn
stands-at p image pc insn e = by_test (nat_lt pc text_start) e
  where
    by_word : (w : Option ℕ) → slice_get p.words ((pc - text_start) / 4) ≡ w → option_and_then insn_of w ≡ Some insn → Stands p pc insn
    by_word None is e = absurd (cc)
    by_word (Some w) is e =
        let within = slice_get_within p.words ((pc - text_start) / 4) w is in
        let most = image.words in
        record { decoded = (decoded_word w insn e).0; small = omega (arith, within, most) }

    by_test : (b : Bool) → (if b then None else option_and_then insn_of (slice_get p.words ((pc - text_start) / 4))) ≡ Some insn → Stands p pc insn
    by_test true e = absurd (cc)
    by_test false e = by_word (slice_get p.words ((pc - text_start) / 4)) refl e

fetched-bounded : (p : Program) → IsLawful p → (s : State) → IsBounded s → (o : Option Fields) → instruction_at p s.pc ≡ o → NextIsBounded (fetched_step p o s)
fetched-bounded p image s h None e = tt
fetched-bounded p image s h (Some insn) e = let at = stands-at p image s.pc insn e in insn-bounded p s h insn at.decoded at.small

step-bounded : (p : Program) → IsLawful p → (s : State) → IsBounded s → NextIsBounded (step p s)
unfolding step
step-bounded p image s h = fetched-bounded p image s h (instruction_at p s.pc) refl

go-on : (z : MachineNext) (run : State → MachineNext) → NextIsBounded z → ((t : State) → IsBounded t → NextIsBounded (run t)) → NextIsBounded (go_on z run)
go-on (Goes t) run k f = f t k
go-on (Over e t) run k f = tt

exec-bounded : (p : Program) → IsLawful p → (n : ℕ) (s : State) → IsBounded s → NextIsBounded (exec p n s)
unfolding exec
exec-bounded p image zero s h = h
exec-bounded p image (suc n) s h = go-on (step p s) (exec p n) (step-bounded p image s h) (λ t k. exec-bounded p image n t k)

pub runs_stay_bounded : (p : Program) → IsLawful p → (steps : ℕ) (s t : State) → IsBounded s → exec p steps s ≡ Goes t → IsBounded t
runs_stay_bounded p image n s t h e = subst NextIsBounded e (exec-bounded p image n s h)
