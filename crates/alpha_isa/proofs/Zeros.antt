-- Images that hold the same behave alike, and zeros are cut in one way.
use Rattle.std.proofs.Common.{◌≡◌, ◌≢◌, ℕ, zero, suc, ◌+◌, ◌-◌, ◌*◌, ◌/◌, ◌%◌, ◌<◌, ◌≤◌, nat_lt, ltb, ℤ, List, [], ◌∷◌, ◌++◌, length, replicate, take, get_or, slice_set, Bool, true, false, not, cond, eqb, Option, Some, None, refl, sym, ap, ◌∙◌, arith, length-append, slice_get, option_and_then}
use Rattle.std.proofs.lemmas.Bool.{ltb-true, ltb-false}
use Rattle.std.proofs.lemmas.List.{length-replicate, get_or-replicate, get_or_append_left}
use Rattle.std.proofs.lemmas.Option.{slice_get-get_or}
use Rattle.std.proofs.Math.Seq.{take-append_seam}
use Rattle.std.specs.Int.{w8, w16, w32, w64, to_le_bytes, from_le_bytes}
use Rattle.alpha_isa.specs.declared.insn.Fields.{Fields}
use Rattle.alpha_isa.specs.declared.insn.Fields.TheVariants as fields
use Rattle.alpha_isa.specs.declared.insn.MemoryOp.{MemoryOp}
use Rattle.alpha_isa.specs.declared.insn.MemoryOp.TheVariants.{Lda, Ldah, Ldbu, Ldwu, Stw, Stb, Ldl, Ldq, Stl, Stq}
use Rattle.alpha_isa.specs.Words.{insn_of}
use Rattle.alpha_isa.specs.Arithmetic.{sign_extension}
use Rattle.alpha_isa.specs.Program.{Program, HoldsSame, HasZerosCut, last_byte, data_of, image_data_size, text_start, next_part, data_start, stack_start, instruction_at, word_address}
use Rattle.alpha_isa.specs.State.{State, register, lies_in, byte_range, with_part, bytes_at, with_bytes}
use Rattle.alpha_isa.specs.Step.{MachineNext, Goes, Over, load_into, go_on_stored, memory_step, insn_step, fetched_step, step, go_on, exec, memory_address}
use Rattle.alpha_isa.specs.Behave.{behave_a, behaviour, start_state}

-- ---- the same places

pub size_is : (p : Program) → length (data_of p) ≡ image_data_size p
size_is p = length-append p.bytes (replicate p.zeros 0) ∙ ap (λ n. length p.bytes + n) (length-replicate p.zeros 0)

same_size : (p q : Program) → HoldsSame p q → image_data_size q ≡ image_data_size p
same_size p q same = sym (size_is q) ∙ ap length same.data_bytes ∙ size_is p

same_data : (p q : Program) → HoldsSame p q → data_start q ≡ data_start p
same_data p q same = ap (λ (words : List ℕ). next_part (text_start + 4 * length words)) same.words

same_stack : (p q : Program) → HoldsSame p q → stack_start q ≡ stack_start p
same_stack p q same = ap (λ n. next_part (n + image_data_size q)) (same_data p q same) ∙ ap (λ n. next_part (data_start p + n)) (same_size p q same)

instruction_in : List ℕ → ℕ → Option Fields
instruction_in words pc = cond (nat_lt pc text_start) None (option_and_then insn_of (slice_get words ((pc - text_start) / 4)))

same_instruction : (p q : Program) (pc : ℕ) → HoldsSame p q → instruction_at q pc ≡ instruction_at p pc
unfolding instruction_in
same_instruction p q pc same = ap (λ words. instruction_in words pc) same.words

-- ---- the same bytes there

-- what is read and written where the data and the stack begin at these addresses
abbrev bytes_by : ℕ → ℕ → State → ℕ → ℕ → Option (List ℕ)
bytes_by d t s a n =
    cond (not (eqb (a % n) 0)) None
    (cond (lies_in a n d s.data_bytes) (Some (byte_range s.data_bytes (a - d) n))
    (cond (lies_in a n t s.stack_bytes) (Some (byte_range s.stack_bytes (a - t) n)) None))

abbrev stored_by : ℕ → ℕ → State → ℕ → List ℕ → Option State
stored_by d t s a new =
    cond (not (eqb (a % length new) 0)) None
    (cond (lies_in a (length new) d s.data_bytes) (Some (record s { data_bytes = with_part s.data_bytes (a - d) new }))
    (cond (lies_in a (length new) t s.stack_bytes) (Some (record s { stack_bytes = with_part s.stack_bytes (a - t) new })) None))

same_bytes : (p q : Program) (s : State) (a n : ℕ) → HoldsSame p q → bytes_at q s a n ≡ bytes_at p s a n
same_bytes p q s a n same = ap (λ d. bytes_by d (stack_start q) s a n) (same_data p q same) ∙ ap (λ t. bytes_by (data_start p) t s a n) (same_stack p q same)

same_stored : (p q : Program) (s : State) (a : ℕ) (new : List ℕ) → HoldsSame p q → with_bytes q s a new ≡ with_bytes p s a new
same_stored p q s a new same = ap (λ d. stored_by d (stack_start q) s a new) (same_data p q same) ∙ ap (λ t. stored_by (data_start p) t s a new) (same_stack p q same)

-- ---- the same steps

loads_same : (p q : Program) (value : List ℕ → ℕ) (ra a n : ℕ) (s : State) → HoldsSame p q → load_into value ra (bytes_at q s a n) s ≡ load_into value ra (bytes_at p s a n) s
loads_same p q value ra a n s same = ap (λ o. load_into value ra o s) (same_bytes p q s a n same)

stores_same : (p q : Program) (a : ℕ) (new : List ℕ) (s : State) → HoldsSame p q → go_on_stored (with_bytes q s a new) s ≡ go_on_stored (with_bytes p s a new) s
stores_same p q a new s same = ap (λ o. go_on_stored o s) (same_stored p q s a new same)

memory_same : (p q : Program) (op : MemoryOp) (ra rb : ℕ) (disp : ℤ) (s : State) → HoldsSame p q → memory_step q op ra rb disp s ≡ memory_step p op ra rb disp s
memory_same p q Lda ra rb disp s same = refl
memory_same p q Ldah ra rb disp s same = refl
memory_same p q Ldbu ra rb disp s same = loads_same p q (from_le_bytes w8) ra (memory_address s rb disp) 1 s same
memory_same p q Ldwu ra rb disp s same = loads_same p q (from_le_bytes w16) ra (memory_address s rb disp) 2 s same
memory_same p q Ldl ra rb disp s same = loads_same p q (λ bytes. sign_extension w32 (from_le_bytes w32 bytes)) ra (memory_address s rb disp) 4 s same
memory_same p q Ldq ra rb disp s same = loads_same p q (from_le_bytes w64) ra (memory_address s rb disp) 8 s same
memory_same p q Stb ra rb disp s same = stores_same p q (memory_address s rb disp) (to_le_bytes w8 (register s ra)) s same
memory_same p q Stw ra rb disp s same = stores_same p q (memory_address s rb disp) (to_le_bytes w16 (register s ra)) s same
memory_same p q Stl ra rb disp s same = stores_same p q (memory_address s rb disp) (to_le_bytes w32 (register s ra)) s same
memory_same p q Stq ra rb disp s same = stores_same p q (memory_address s rb disp) (to_le_bytes w64 (register s ra)) s same

insn_same : (p q : Program) (i : Fields) (s : State) → HoldsSame p q → insn_step q i s ≡ insn_step p i s
insn_same p q (fields.Memory op ra rb disp) s same = memory_same p q op ra rb disp s same
insn_same p q (fields.Branch op ra disp) s same = refl
insn_same p q (fields.Jump op ra rb) s same = refl
insn_same p q (fields.Operate op ra rb rc) s same = refl
insn_same p q (fields.Pal function) s same = refl

fetched_same : (p q : Program) (o : Option Fields) (s : State) → HoldsSame p q → fetched_step q o s ≡ fetched_step p o s
fetched_same p q None s same = refl
fetched_same p q (Some i) s same = insn_same p q i s same

step_same : (p q : Program) (s : State) → HoldsSame p q → step q s ≡ step p s
unfolding step
step_same p q s same = ap (λ o. fetched_step q o s) (same_instruction p q s.pc same) ∙ fetched_same p q (instruction_at p s.pc) s same

-- ---- the same runs

go_on_same : (f g : State → MachineNext) → ((s : State) → f s ≡ g s) → (r : MachineNext) → go_on r f ≡ go_on r g
go_on_same f g same (Goes s) = same s
go_on_same f g same (Over h s) = refl

exec_same : (p q : Program) → HoldsSame p q → (n : ℕ) (s : State) → exec q n s ≡ exec p n s
unfolding exec
exec_same p q same zero s = refl
exec_same p q same (suc n) s = ap (λ r. go_on r (exec q n)) (step_same p q s same) ∙ go_on_same (exec q n) (exec p n) (exec_same p q same n) (step p s)

abbrev start_by : ℕ → ℕ → List ℕ → ℕ → List ℕ → State
start_by entry t bytes stack input = record {
  pc = word_address entry;
  registers = slice_set (replicate 32 0) 30 (t + stack);
  data_bytes = bytes;
  stack_bytes = replicate stack 0;
  input = input;
  output = [];
}

start_same : (p q : Program) (stack : ℕ) (input : List ℕ) → HoldsSame p q → start_state q stack input ≡ start_state p stack input
start_same p q stack input same =
    ap (λ e. start_by e (stack_start q) (data_of q) stack input) same.entry
    ∙ ap (λ t. start_by p.entry t (data_of q) stack input) (same_stack p q same)
    ∙ ap (λ bytes. start_by p.entry (stack_start p) bytes stack input) same.data_bytes

pub behave_same : (p q : Program) (stack : ℕ) (input : List ℕ) (m : ℕ) → HoldsSame p q → behave_a q stack input m ≡ behave_a p stack input m
behave_same p q stack input m same = ap behaviour (exec_same p q same m (start_state q stack input) ∙ ap (exec p m) (start_same p q stack input same))

-- ---- zeros are cut in one way

zero_behind : (xs : List ℕ) (m i : ℕ) → length xs ≤ i → i < length xs + m → get_or (xs ++ replicate m 0) i 1 ≡ 0
zero_behind [] m i low high = get_or-replicate m i 0 1 (omega (arith, high))
zero_behind (x ∷ xs) m zero low high = absurd (omega (arith, low))
zero_behind (x ∷ xs) m (suc i) low high = zero_behind xs m i (omega (arith, low)) (omega (arith, high))

sizes_are : (xs ys : List ℕ) (m n : ℕ) → xs ++ replicate m 0 ≡ ys ++ replicate n 0 → length xs + m ≡ length ys + n
sizes_are xs ys m n e =
    ap (λ k. length xs + k) (sym (length-replicate m 0)) ∙ sym (length-append xs (replicate m 0)) ∙ ap length e
    ∙ length-append ys (replicate n 0) ∙ ap (λ k. length ys + k) (length-replicate n 0)

-- bytes that are longer would end with one of the other's zeros
ends_with_zero : (xs ys : List ℕ) (m n : ℕ) → xs ++ replicate m 0 ≡ ys ++ replicate n 0 → length xs < length ys → last_byte ys ≡ Some 0
ends_with_zero xs ys m n e longer =
    let i : ℕ = length ys - 1 in
    let within : i < length ys = omega (arith, longer) in
    let zero_there : get_or (xs ++ replicate m 0) i 1 ≡ 0 = zero_behind xs m i (omega (arith, longer)) (omega (arith, longer, sizes_are xs ys m n e)) in
    let same : get_or ys i 1 ≡ 0 = sym (get_or_append_left ys (replicate n 0) 1 i within) ∙ ap (λ l. get_or l i 1) (sym e) ∙ zero_there in
    slice_get-get_or ys i 1 within ∙ ap (λ x. Some x) same

not_longer : (xs ys : List ℕ) (m n : ℕ) (b : Bool) → ltb (length xs) (length ys) ≡ b → xs ++ replicate m 0 ≡ ys ++ replicate n 0 → last_byte ys ≢ Some 0 → length ys ≤ length xs
not_longer xs ys m n true longer e last = absurd (last (ends_with_zero xs ys m n e (ltb-true (length xs) (length ys) longer)))
not_longer xs ys m n false longer e last = ltb-false (length xs) (length ys) longer

pub same_bytes_cut : (xs ys : List ℕ) (m n : ℕ) → xs ++ replicate m 0 ≡ ys ++ replicate n 0 → last_byte xs ≢ Some 0 → last_byte ys ≢ Some 0 → (xs ≡ ys) × (m ≡ n)
same_bytes_cut xs ys m n e not_x not_y =
    let size : length xs ≡ length ys = omega (arith, not_longer xs ys m n (ltb (length xs) (length ys)) refl e not_y, not_longer ys xs n m (ltb (length ys) (length xs)) refl (sym e) not_x) in
    (sym (take-append_seam xs (replicate m 0)) ∙ ap (take (length xs)) e ∙ ap (λ k. take k (ys ++ replicate n 0)) size ∙ take-append_seam ys (replicate n 0), omega (arith, size, sizes_are xs ys m n e))

pub one_cut : (p q r : Program) → HasZerosCut p q → HasZerosCut p r → q ≡ r
one_cut p q r a b =
    let words : q.words ≡ r.words = a.holds.words ∙ sym b.holds.words in
    let entry : q.entry ≡ r.entry = a.holds.entry ∙ sym b.holds.entry in
    let parts = same_bytes_cut q.bytes r.bytes q.zeros r.zeros (a.holds.data_bytes ∙ sym b.holds.data_bytes) a.last b.last in
    ap (λ (xs : List ℕ). let u : Program = record { words = xs; bytes = q.bytes; zeros = q.zeros; entry = q.entry } in u) words
    ∙ ap (λ (xs : List ℕ). let u : Program = record { words = r.words; bytes = xs; zeros = q.zeros; entry = q.entry } in u) parts.0
    ∙ ap (λ n. let u : Program = record { words = r.words; bytes = r.bytes; zeros = n; entry = q.entry } in u) parts.1
    ∙ ap (λ n. let u : Program = record { words = r.words; bytes = r.bytes; zeros = r.zeros; entry = n } in u) entry
