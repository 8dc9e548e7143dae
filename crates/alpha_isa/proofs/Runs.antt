-- Runs of the machine, one after the other, and the output, which only grows.
use Rattle.std.proofs.Common.{◌≡◌, ℕ, zero, suc, ◌+◌, ◌-◌, ◌≤◌, ◌%◌, ℤ, List, [], ◌∷◌, ◌++◌, length, Bool, true, false, not, cond, eqb, Option, Some, None, refl, sym, ap, ◌∙◌, subst, arith, append_assoc, append-nil}
use Rattle.std.specs.Int.{w8, w16, w32, w64, to_le_bytes}
use Rattle.std.proofs.lemmas.Bool.{cond_both}
use Rattle.alpha_isa.specs.declared.insn.Fields.{Fields}
use Rattle.alpha_isa.specs.declared.insn.Fields.TheVariants as fields
use Rattle.alpha_isa.specs.declared.insn.MemoryOp.{MemoryOp}
use Rattle.alpha_isa.specs.declared.insn.MemoryOp.TheVariants.{Lda, Ldah, Ldbu, Ldwu, Stw, Stb, Ldl, Ldq, Stl, Stq}
use Rattle.alpha_isa.specs.declared.insn.BranchOp.{BranchOp}
use Rattle.alpha_isa.specs.Arithmetic.{OperationEffect, Gives, Keeps, Overflows}
use Rattle.alpha_isa.specs.Program.{Program, instruction_at, data_start, stack_start}
use Rattle.alpha_isa.specs.State.{State, register, with_register, with_bytes, with_part, lies_in}
use Rattle.alpha_isa.specs.Step.{MachineNext, Goes, Over, Done, Trap, next_instruction, stuck_at, input_word, input_rest, load_into, go_on_stored, memory_step, branch_step, links, next_pc, memory_address, jump_step, operate_step, service_step, pal_step, insn_step, fetched_step, step, go_on, exec}
use Rattle.alpha_isa.specs.Laws.{output_at, Extends}

-- ---- one run after another

split_from : (p : Program) (k n : ℕ) → ((u : State) → exec p (k + n) u ≡ go_on (exec p k u) (exec p n)) → (r : MachineNext) → go_on r (exec p (k + n)) ≡ go_on (go_on r (exec p k)) (exec p n)
split_from p k n ih (Goes u) = ih u
split_from p k n ih (Over h u) = refl

pub exec_split : (p : Program) (k n : ℕ) (s : State) → exec p (k + n) s ≡ go_on (exec p k s) (exec p n)
unfolding exec
exec_split p zero n s = let none : 0 + n ≡ n = omega arith in ap (λ j. exec p j s) none
exec_split p (suc k) n s =
    let more : suc k + n ≡ suc (k + n) = omega arith in
    ap (λ j. exec p j s) more ∙ split_from p k n (exec_split p k n) (step p s)

-- ---- the output of a step

-- a next state goes on with an output
Grows : List ℕ → MachineNext → Type 0
Grows old n = Extends old (output_at n)

with_register-output : (r word : ℕ) (s : State) → (with_register r word s).output ≡ s.output
with_register-output r word s = cond_both (eqb r 31) s _ (λ (u : State). u.output ≡ s.output) (λ e. refl) (λ e. refl)

still : (old : List ℕ) (n : MachineNext) → output_at n ≡ old → Grows old n
unfolding Grows
still old n e = ([], e ∙ sym (append-nil old))

given : (ra word : ℕ) (s : State) → Grows s.output (next_instruction (with_register ra word s))
given ra word s = still s.output (next_instruction (with_register ra word s)) (with_register-output ra word s)

loaded_grows : (value : List ℕ → ℕ) (ra : ℕ) (o : Option (List ℕ)) (s : State) → Grows s.output (load_into value ra o s)
loaded_grows value ra None s = still s.output (stuck_at s) refl
loaded_grows value ra (Some bytes) s = given ra (value bytes) s

one_of : (old : List ℕ) (b : Bool) (x y : MachineNext) → Grows old x → Grows old y → Grows old (cond b x y)
one_of old true x y f g = f
one_of old false x y f g = g

stored_one : (s : State) (b c d : Bool) (t u : State) → t.output ≡ s.output → u.output ≡ s.output → Grows s.output (go_on_stored (cond b None (cond c (Some t) (cond d (Some u) None))) s)
stored_one s true c d t u e f = still s.output (stuck_at s) refl
stored_one s false true d t u e f = still s.output (next_instruction t) e
stored_one s false false true t u e f = still s.output (next_instruction u) f
stored_one s false false false t u e f = still s.output (stuck_at s) refl

stored_grows : (p : Program) (s : State) (a : ℕ) (new : List ℕ) → Grows s.output (go_on_stored (with_bytes p s a new) s)
stored_grows p s a new =
    stored_one s (not (eqb (a % length new) 0)) (lies_in a (length new) (data_start p) s.data_bytes) (lies_in a (length new) (stack_start p) s.stack_bytes)
    (record s { data_bytes = with_part s.data_bytes (a - data_start p) new })
    (record s { stack_bytes = with_part s.stack_bytes (a - stack_start p) new })
    refl refl

memory_grows : (p : Program) (op : MemoryOp) (ra rb : ℕ) (disp : ℤ) (s : State) → Grows s.output (memory_step p op ra rb disp s)
memory_grows p Lda ra rb disp s = given ra _ s
memory_grows p Ldah ra rb disp s = given ra _ s
memory_grows p Ldbu ra rb disp s = loaded_grows _ ra _ s
memory_grows p Ldwu ra rb disp s = loaded_grows _ ra _ s
memory_grows p Ldl ra rb disp s = loaded_grows _ ra _ s
memory_grows p Ldq ra rb disp s = loaded_grows _ ra _ s
memory_grows p Stb ra rb disp s = stored_grows p s (memory_address s rb disp) (to_le_bytes w8 (register s ra))
memory_grows p Stw ra rb disp s = stored_grows p s (memory_address s rb disp) (to_le_bytes w16 (register s ra))
memory_grows p Stl ra rb disp s = stored_grows p s (memory_address s rb disp) (to_le_bytes w32 (register s ra))
memory_grows p Stq ra rb disp s = stored_grows p s (memory_address s rb disp) (to_le_bytes w64 (register s ra))

branch_grows : (op : BranchOp) (ra : ℕ) (disp : ℤ) (s : State) → Grows s.output (branch_step op ra disp s)
branch_grows op ra disp s =
    still s.output (branch_step op ra disp s)
    (cond_both (links op) (with_register ra (next_pc s) s) s (λ (u : State). u.output ≡ s.output) (λ e. with_register-output ra (next_pc s) s) (λ e. refl))

operate_grows : (o : OperationEffect) (rc : ℕ) (s : State) → Grows s.output (operate_step o rc s)
operate_grows (Gives word) rc s = given rc word s
operate_grows Keeps rc s = still s.output (next_instruction s) refl
operate_grows Overflows rc s = still s.output _ refl

put_grows : (byte : ℕ) (s : State) → Grows s.output (next_instruction (record s { output = s.output ++ byte ∷ [] }))
unfolding Grows
put_grows byte s = (byte ∷ [], refl)

service_grows : (number : ℕ) (s : State) → Grows s.output (service_step number s)
service_grows number s =
    let ends : MachineNext = Over (Done (register s 16 % 256)) s in
    let puts : MachineNext = next_instruction (record s { output = s.output ++ (register s 16 % 256) ∷ [] }) in
    let rest : State = record s { input = input_rest s.input } in
    let takes : MachineNext = next_instruction (with_register 0 (input_word s.input) rest) in
    one_of s.output (eqb number 1) ends (cond (eqb number 2) puts (cond (eqb number 3) takes (stuck_at s))) (still s.output ends refl)
    (one_of s.output (eqb number 2) puts (cond (eqb number 3) takes (stuck_at s)) (put_grows (register s 16 % 256) s)
    (one_of s.output (eqb number 3) takes (stuck_at s) (still s.output takes (with_register-output 0 (input_word s.input) rest)) (still s.output (stuck_at s) refl)))

pal_grows : (function : ℕ) (s : State) → Grows s.output (pal_step function s)
pal_grows function s =
    let traps : MachineNext = Over (Trap (register s 16)) s in
    one_of s.output (eqb function 0x83) (service_step (register s 0) s) (cond (eqb function 0xAA) traps (stuck_at s)) (service_grows (register s 0) s)
    (one_of s.output (eqb function 0xAA) traps (stuck_at s) (still s.output traps refl) (still s.output (stuck_at s) refl))

insn_grows : (p : Program) (i : Fields) (s : State) → Grows s.output (insn_step p i s)
insn_grows p (fields.Memory op ra rb disp) s = memory_grows p op ra rb disp s
insn_grows p (fields.Branch op ra disp) s = branch_grows op ra disp s
insn_grows p (fields.Jump op ra rb) s = still s.output (jump_step ra rb s) (with_register-output ra (next_pc s) s)
insn_grows p (fields.Operate op ra rb rc) s = operate_grows _ rc s
insn_grows p (fields.Pal function) s = pal_grows function s

fetched_grows : (p : Program) (o : Option Fields) (s : State) → Grows s.output (fetched_step p o s)
fetched_grows p None s = still s.output (stuck_at s) refl
fetched_grows p (Some i) s = insn_grows p i s

step_grows : (p : Program) (s : State) → Grows s.output (step p s)
unfolding step
step_grows p s = fetched_grows p (instruction_at p s.pc) s

-- ---- the output of a run

longer : (a b : List ℕ) (n : MachineNext) → Extends a b → Grows b n → Grows a n
unfolding Grows
longer a b n x y = (x.0 ++ y.0, y.1 ∙ ap (λ l. l ++ y.0) x.1 ∙ append_assoc a x.0 y.0)

exec_grows_from : (p : Program) (n : ℕ) (old : List ℕ) → ((u : State) → Grows u.output (exec p n u)) → (r : MachineNext) → Grows old r → Grows old (go_on r (exec p n))
unfolding Grows
exec_grows_from p n old ih (Goes u) x = longer old u.output (exec p n u) x (ih u)
exec_grows_from p n old ih (Over h u) x = x

exec_grows : (p : Program) (n : ℕ) (s : State) → Grows s.output (exec p n s)
unfolding exec
exec_grows p zero s = still s.output (Goes s) refl
exec_grows p (suc n) s = exec_grows_from p n s.output (exec_grows p n) (step p s) (step_grows p s)

pub exec_extends : (p : Program) (n : ℕ) (s : State) → Extends s.output (output_at (exec p n s))
unfolding Grows
exec_extends p n s = exec_grows p n s

more_from : (p : Program) (n : ℕ) (r : MachineNext) → Extends (output_at r) (output_at (go_on r (exec p n)))
more_from p n (Goes u) = exec_extends p n u
more_from p n (Over h u) = ([], sym (append-nil u.output))

-- the output of more steps goes on with that of fewer
pub exec_more : (p : Program) (k n : ℕ) (s : State) → k ≤ n → Extends (output_at (exec p k s)) (output_at (exec p n s))
exec_more p k n s le =
    let whole : k + (n - k) ≡ n = omega arith in
    let split : exec p n s ≡ go_on (exec p k s) (exec p (n - k)) = ap (λ j. exec p j s) (sym whole) ∙ exec_split p k (n - k) s in
    subst (λ r. Extends (output_at (exec p k s)) (output_at r)) (sym split) (more_from p (n - k) (exec p k s))
