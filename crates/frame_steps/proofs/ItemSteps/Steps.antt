-- What the machine does where items stand.
use Rattle.std.proofs.Common.{◌≡◌, ◌≢◌, ℕ, zero, suc, ◌+◌, ◌-◌, ◌*◌, ◌/◌, ◌%◌, ◌^◌, ◌<◌, ◌≤◌, Bool, true, false, not, cond, ltb, eqb, List, [], ◌∷◌, length, Option, Some, None, refl, sym, ap, ◌∙◌, subst, arith, inl, inr, length-set}
use Rattle.std.specs.Prelude.{ℤ, pos, negsuc, ◌-ℤ◌, ◌*ℤ◌, slice_get, slice_set, slice_index, option_and_then, if◌then◌else◌}
use Rattle.std.proofs.lemmas.Int.{ints}
use Rattle.std.proofs.lemmas.Bool.{cases_eq, cases_lt, le-ltb, eq-eqb, ne_eqb}
use Rattle.std.proofs.lemmas.List.{get_or-set_same, get_or-set_other}
use Rattle.std.proofs.lemmas.Option.{slice_get_past}
use Rattle.alpha_isa.specs.declared.insn.Fields.{Fields}
use Rattle.alpha_isa.specs.declared.insn.Fields.TheVariants as fields
use Rattle.alpha_isa.specs.declared.insn.MemoryOp.TheVariants.{Lda, Ldah}
use Rattle.alpha_isa.specs.declared.insn.JumpOp.{JumpOp}
use Rattle.alpha_isa.specs.declared.insn.JumpOp.TheVariants.{Jmp, Jsr}
use Rattle.alpha_isa.specs.declared.insn.BranchOp.{BranchOp}
use Rattle.alpha_isa.specs.declared.insn.BranchOp.TheVariants.{Br, Bsr, Blbc, Beq, Blt, Ble, Blbs, Bne, Bge, Bgt}
use Rattle.alpha_isa.specs.Words.{insn_of}
use Rattle.alpha_isa.specs.Arithmetic.{word_at, word_from}
use Rattle.alpha_isa.specs.Program.{Program, IsLawful, data_start, word_address, instruction_at}
use Rattle.alpha_isa.specs.State.{State, register, with_register}
use Rattle.alpha_isa.specs.Step.{Halt, Done, Trap, Stuck, Goes, Over, memory_address, branch_target, insn_step, fetched_step, step, go_on, exec, is_branch_taken, links, next_pc}
use Rattle.alpha_isa.proofs.Runs.{exec_split}
use Rattle.alpha_items.specs.declared.item.AsmItem.{AsmItem}
use Rattle.alpha_items.specs.declared.item.AsmItem.TheVariants.{Plain, Branch, TextAddress, DataAddress}
use Rattle.alpha_items.specs.Layout.{item_words, displacement}
use Rattle.alpha_items.specs.Words.{item_insns, address_insns, high_of, inverse, far_insns, most_address}
use Rattle.frame_steps.specs.item_steps.Standing.{Labels, InsnsAt, ItemsAt}
use Rattle.frame_steps.specs.item_steps.Steps.{ArePaid, Comes, Leaves, StandsAt, ComesBehind, SameElse, HasAddress, AddressDone, HoldsWords, BranchDone}
use Rattle.frame_steps.proofs.ItemSteps.Standing.{insn-at}

-- ---- runs

pub steps_add_up : (p : Program) (s t u : State) → Comes p s t → Comes p t u → Comes p s u
steps_add_up p s t u a b = let x = a.paid in let y = b.paid in record { steps = a.steps + b.steps; paid = omega (arith, x, y); run = exec_split p a.steps b.steps s ∙ ap (λ n. go_on n (exec p b.steps)) a.run ∙ b.run }

-- a sum of steps has some where a part has some
pub first-some : (p : Program) (s t u : State) (a : Comes p s t) (b : Comes p t u) → 1 ≤ a.steps → 1 ≤ (steps_add_up p s t u a b).steps
unfolding steps_add_up
first-some p s t u a b h = omega (arith, h)

pub second-some : (p : Program) (s t u : State) (a : Comes p s t) (b : Comes p t u) → 1 ≤ b.steps → 1 ≤ (steps_add_up p s t u a b).steps
unfolding steps_add_up
second-some p s t u a b h = omega (arith, h)

-- one step, by the instruction that stands where the machine is
one-exec : (p : Program) (s : State) (i : Fields) → instruction_at p s.pc ≡ Some i → exec p 1 s ≡ go_on (insn_step p i s) (exec p 0)
unfolding exec step
one-exec p s i e = ap (λ o. go_on (fetched_step p o s) (exec p 0)) e

no-more : (p : Program) (t : State) → exec p 0 t ≡ Goes t
unfolding exec
no-more p t = refl

one-run : (p : Program) (s t : State) (i : Fields) → instruction_at p s.pc ≡ Some i → insn_step p i s ≡ Goes t → exec p 1 s ≡ Goes t
one-run p s t i e f = one-exec p s i e ∙ ap (λ n. go_on n (exec p 0)) f ∙ no-more p t

pub one-step : (p : Program) (s t : State) (i : Fields) → instruction_at p s.pc ≡ Some i → insn_step p i s ≡ Goes t → s.pc + 4 ≤ t.pc → Comes p s t
one-step p s t i e f on = record { steps = 1; paid = omega (arith, on); run = one-exec p s i e ∙ ap (λ n. go_on n (exec p 0)) f ∙ no-more p t }

-- and one that goes anywhere
pub one-leaves : (p : Program) (a : ℕ) (s t : State) (i : Fields) → instruction_at p s.pc ≡ Some i → insn_step p i s ≡ Goes t → s.pc + 4 ≤ a → Leaves p a s t
one-leaves p a s t i e f le = record { steps = 1; run = one-run p s t i e f; paid = omega (arith, le) }

pub one-some : (p : Program) (a : ℕ) (s t : State) (i : Fields) (e : instruction_at p s.pc ≡ Some i) (f : insn_step p i s ≡ Goes t) (le : s.pc + 4 ≤ a) → 1 ≤ (one-leaves p a s t i e f le).steps
unfolding one-leaves
one-some p a s t i e f le = omega arith

pub leaves_behind : (p : Program) (a : ℕ) (s t u : State) → Comes p s t → Leaves p a t u → Leaves p a s u
leaves_behind p a s t u c l = let x = c.paid in let y = l.paid in record { steps = c.steps + l.steps; run = exec_split p c.steps l.steps s ∙ ap (λ n. go_on n (exec p l.steps)) c.run ∙ l.run; paid = omega (arith, x, y) }

pub behind-some : (p : Program) (a : ℕ) (s t u : State) (c : Comes p s t) (l : Leaves p a t u) → 1 ≤ l.steps → 1 ≤ (leaves_behind p a s t u c l).steps
unfolding leaves_behind
behind-some p a s t u c l h = omega (arith, h)

-- what words pay for more words do
pub later : (p : Program) (a b : ℕ) (s t : State) → Leaves p a s t → a ≤ b → Leaves p b s t
later p a b s t l le = let x = l.paid in record { steps = l.steps; run = l.run; paid = omega (arith, x, le) }

pub later-some : (p : Program) (a b : ℕ) (s t : State) (l : Leaves p a s t) (le : a ≤ b) → 1 ≤ l.steps → 1 ≤ (later p a b s t l le).steps
unfolding later
later-some p a b s t l le h = h

-- where the machine comes to the address that pays, it came there
pub leaves_comes : (p : Program) (a : ℕ) (s t : State) → Leaves p a s t → a ≤ t.pc → Comes p s t
leaves_comes p a s t l le = let x = l.paid in record { steps = l.steps; run = l.run; paid = omega (arith, x, le) }

-- a routine that returns to there
pub returned : (p : Program) (a n : ℕ) (s t u : State) → Leaves p a s t → n ≤ 599 → exec p n t ≡ Goes u → a ≤ u.pc → Comes p s u
returned p a n s t u l few run le =
    let x = l.paid in
    record { steps = l.steps + n; run = exec_split p l.steps n s ∙ ap (λ z. go_on z (exec p n)) l.run ∙ run; paid = omega (arith, x, few, le) }

one-end : (p : Program) (s t : State) (i : Fields) (h : Halt) → instruction_at p s.pc ≡ Some i → insn_step p i s ≡ Over h t → exec p 1 s ≡ Over h t
one-end p s t i h e f = one-exec p s i e ∙ ap (λ n. go_on n (exec p 0)) f

-- the k-th of the instructions that stand from a word on
fetched : (p : Program) (w k : ℕ) (insns : List Fields) (i : Fields) (pc : ℕ) → InsnsAt p w insns → k < length insns → slice_get insns k ≡ Some i → pc ≡ word_address (w + k) → instruction_at p pc ≡ Some i
fetched p w k insns i pc h lt is e = ap (instruction_at p) e ∙ h k lt ∙ is

-- an address where an instruction stands is one of the text
pub in-text : (p : Program) (pc : ℕ) (i : Fields) → instruction_at p pc ≡ Some i → pc < word_address (length p.words)
in-text p pc i e = elim (cases_lt pc (word_address (length p.words))) [ inl lt ↦ lt | inr ge ↦ absurd (past ge) ]
  where
    past : word_address (length p.words) ≤ pc → ⊥
    past ge =
        let inside : ltb pc 65536 ≡ false = le-ltb pc 65536 (omega (arith, ge)) in
        let index : length p.words ≤ (pc - 65536) / 4 = omega (arith, ge) in
        let nothing : instruction_at p pc ≡ None = ap (λ b. cond b None (option_and_then insn_of (slice_get p.words ((pc - 65536) / 4)))) inside ∙ ap (option_and_then insn_of) (slice_get_past p.words ((pc - 65536) / 4) index) in
        let clash : None ≡ Some i = sym nothing ∙ e in
        cc

-- a step that ends a run is paid by the words of the text
abbrev pub IsNoFault : Halt → Type 0
IsNoFault (Done status) = Unit {0}
IsNoFault (Trap code) = Unit {0}
IsNoFault (Stuck pc) = ⊥

pub one_end_paid : (p : Program) (s l : State) (h : Halt) → exec p 1 s ≡ Over h l → IsNoFault h → ArePaid 1 s (word_address (length p.words))
unfolding exec step
one_end_paid p s l h run sound = by_insn (instruction_at p s.pc) refl
  where
    by_insn : (o : Option Fields) → instruction_at p s.pc ≡ o → ArePaid 1 s (word_address (length p.words))
    by_insn None e =
        let stuck : Over (Stuck s.pc) s ≡ Over h l = sym (ap (λ o. go_on (fetched_step p o s) (exec p 0)) e) ∙ run in
        let is : Stuck s.pc ≡ h = cc in
        absurd (subst IsNoFault (sym is) sound)
    by_insn (Some i) e = let lt = in-text p s.pc i e in omega (arith, lt)

-- the words up to the k-th of the instructions that stand are those of the text
last-within : (p : Program) (w : ℕ) (insns : List Fields) (k : ℕ) (i : Fields) → InsnsAt p w insns → k < length insns → slice_get insns k ≡ Some i → w + suc k ≤ length p.words
last-within p w insns k i h lt is = let below = in-text p (word_address (w + k)) i (h k lt ∙ is) in omega (arith, below)

-- a word where an instruction stands is one of the text
within-text : (p : Program) (w : ℕ) (insns : List Fields) → InsnsAt p w insns → 0 < length insns → w < length p.words
within-text p w insns h some = elim (cases_lt w (length p.words)) [ inl lt ↦ lt | inr ge ↦ absurd (past ge insns h some) ]
  where
    past : length p.words ≤ w → (insns : List Fields) → InsnsAt p w insns → 0 < length insns → ⊥
    past ge [] h some = omega arith
    past ge (i ∷ insns) h some =
        let none : w + 0 ≡ w = omega arith in
        let nothing : instruction_at p (word_address w) ≡ None = insn-at p w ∙ ap (option_and_then insn_of) (slice_get_past p.words w ge) in
        let clash : None ≡ Some i = sym nothing ∙ ap (λ k. instruction_at p (word_address k)) (sym none) ∙ h 0 (omega arith) in
        cc

pub plain_steps : (p : Program) (there : Labels) (w : ℕ) (insn : Fields) (items : List AsmItem) (end : ℕ) (s t : State) → StandsAt p there w (Plain insn) items end s → insn_step p insn s ≡ Goes t → t.pc ≡ s.pc + 4 → ComesBehind p there w items end s t
plain_steps p there w insn items end s t h e pc =
    let none : w + 0 ≡ w = omega arith in
    let next : word_address w + 4 ≡ word_address (w + 1) = omega arith in
    record {
      comes = one-step p s t insn (fetched p w 0 (insn ∷ []) insn s.pc h.items_at.1 (omega arith) refl (h.pc ∙ ap word_address (sym none))) e (omega (arith, pc));
      next = w + 1;
      pc = pc ∙ ap (λ n. n + 4) h.pc ∙ next;
      items_at = h.items_at.2;
    }

pub plain_ends : (p : Program) (there : Labels) (w : ℕ) (insn : Fields) (items : List AsmItem) (end : ℕ) (s t : State) (k : Halt) → StandsAt p there w (Plain insn) items end s → insn_step p insn s ≡ Over k t → exec p 1 s ≡ Over k t
plain_ends p there w insn items end s t k h e =
    let none : w + 0 ≡ w = omega arith in
    one-end p s t insn k (fetched p w 0 (insn ∷ []) insn s.pc h.items_at.1 (omega arith) refl (h.pc ∙ ap word_address (sym none))) e

-- ---- registers

pub same-with : (r v : ℕ) (s : State) → SameElse s (with_register r v s)
same-with r v s = split (eqb r 31)
  where
    split : (b : Bool) → SameElse s (if b then s else record s { registers = slice_set s.registers r v })
    split true = record { registers = refl; data_bytes = refl; stack_bytes = refl; input = refl; output = refl }
    split false = record { registers = length-set s.registers r v; data_bytes = refl; stack_bytes = refl; input = refl; output = refl }

pub pc-with : (r v : ℕ) (s : State) → (with_register r v s).pc ≡ s.pc
pc-with r v s = split (eqb r 31)
  where
    split : (b : Bool) → (if b then s else record s { registers = slice_set s.registers r v }).pc ≡ s.pc
    split true = refl
    split false = refl

-- the next word is behind
next-on : (r v : ℕ) (s : State) → s.pc + 4 ≤ next_pc (with_register r v s)
next-on r v s = let e = pc-with r v s in omega (arith, e)

pub read-same : (r v : ℕ) (s : State) → r < 31 → length s.registers ≡ 32 → register (with_register r v s) r ≡ v
read-same r v s lt len =
    let ne : eqb r 31 ≡ false = ne_eqb r 31 (λ e. omega arith) in
    split (eqb r 31) ne
  where
    split : (b : Bool) → b ≡ false → (if b then 0 else slice_index (if b then s else record s { registers = slice_set s.registers r v }).registers r) ≡ v
    split true e = absurd (cc)
    split false e = get_or-set_same s.registers r v 0 (omega (arith, len))

pub read-other : (r q v : ℕ) (s : State) → q ≢ r → register (with_register r v s) q ≡ register s q
read-other r q v s ne = ap (λ n. if eqb q 31 then 0 else n) (split (eqb r 31))
  where
    split : (b : Bool) → slice_index (if b then s else record s { registers = slice_set s.registers r v }).registers q ≡ slice_index s.registers q
    split true = refl
    split false = get_or-set_other s.registers r q v 0 ne

-- a write of register 31 is lost
pub read-lost : (r q v : ℕ) (s : State) → r ≡ 31 → register (with_register r v s) q ≡ register s q
read-lost r q v s e = ap (λ n. if eqb q 31 then 0 else n) (split (eqb r 31) (eq-eqb r 31 e))
  where
    split : (b : Bool) → b ≡ true → slice_index (if b then s else record s { registers = slice_set s.registers r v }).registers q ≡ slice_index s.registers q
    split true t = refl
    split false t = absurd (cc)

-- a word more in a register
pub words-with : (r v : ℕ) (s : State) → r < 32 → length s.registers ≡ 32 → v < 2 ^ 64 → HoldsWords s → HoldsWords (with_register r v s)
words-with r v s lt len small words q = elim (cases_eq r 31) [
  | inl e ↦ subst (λ n. n < 2 ^ 64) (sym (read-lost r q v s e)) (words q)
  | inr kept ↦ elim (cases_eq q r) [
    | inl is ↦ subst (λ k. register (with_register r v s) k < 2 ^ 64) (sym is) (subst (λ n. n < 2 ^ 64) (sym (read-same r v s (omega arith) len)) small)
    | inr ne ↦ subst (λ n. n < 2 ^ 64) (sym (read-other r q v s ne)) (words q)
  ]
]

pub same-through : (s t u : State) → SameElse s t → SameElse t u → SameElse s u
same-through s t u a b = record {
  registers = b.registers ∙ a.registers;
  data_bytes = b.data_bytes ∙ a.data_bytes;
  stack_bytes = b.stack_bytes ∙ a.stack_bytes;
  input = b.input ∙ a.input;
  output = b.output ∙ a.output;
}

pub same-at : (s : State) (pc : ℕ) → SameElse s (record s { pc = pc })
same-at s pc = record { registers = refl; data_bytes = refl; stack_bytes = refl; input = refl; output = refl }

-- ---- addresses

high-word : (n : ℕ) → n < most_address → word_at (0 + word_from (pos (high_of n) *ℤ pos 65536)) ≡ high_of n * 65536
high-word n small = omega arith

rest-word : (z : ℤ) (n k : ℕ) → z ≡ pos n -ℤ pos k → n < most_address → k < 2 ^ 63 → word_at (k + word_from z) ≡ n
rest-word (pos d) n k e small less = let f : d + k ≡ n = omega (arith, ints, e) in omega (arith, f)
rest-word (negsuc d) n k e small less = let f : n + suc d ≡ k = omega (arith, ints, e) in omega (arith, f)

-- two instructions bring an address into a register
record AddressIsLoaded (p : Program) (ra n w : ℕ) (s : State) : Type 0 where
  to : State
  comes : Comes p s to
  pc : to.pc ≡ word_address (w + 2)
  has : HasAddress ra n s to

address-loaded : (p : Program) (ra n w : ℕ) (s : State) → ra < 31 → n < most_address → InsnsAt p w (address_insns ra n) → s.pc ≡ word_address w → length s.registers ≡ 32 → AddressIsLoaded p ra n w s
address-loaded p ra n w s lt small h pc len =
    let u = record (with_register ra (memory_address s 31 (pos (high_of n) *ℤ pos 65536)) s) { pc = next_pc (with_register ra (memory_address s 31 (pos (high_of n) *ℤ pos 65536)) s) } in
    let none : w + 0 ≡ w = omega arith in
    let first = one-step p s u (fields.Memory Ldah ra 31 (pos (high_of n))) (fetched p w 0 (address_insns ra n) (fields.Memory Ldah ra 31 (pos (high_of n))) s.pc h (omega arith) refl (pc ∙ ap word_address (sym none))) refl (next-on ra (memory_address s 31 (pos (high_of n) *ℤ pos 65536)) s) in
    let a = memory_address s 31 (pos (high_of n) *ℤ pos 65536) in
    let upc : u.pc ≡ word_address (w + 1) = ap (λ k. k + 4) (pc-with ra a s ∙ pc) ∙ (let e : word_address w + 4 ≡ word_address (w + 1) = omega arith in e) in
    let same1 : SameElse s u = same-through s (with_register ra a s) u (same-with ra a s) (same-at (with_register ra a s) u.pc) in
    let ulen : length u.registers ≡ 32 = same1.registers ∙ len in
    let v = memory_address u ra (pos n -ℤ pos (high_of n * 65536)) in
    let t = record (with_register ra v u) { pc = next_pc (with_register ra v u) } in
    let second = one-step p u t (fields.Memory Lda ra ra (pos n -ℤ pos (high_of n * 65536))) (fetched p w 1 (address_insns ra n) (fields.Memory Lda ra ra (pos n -ℤ pos (high_of n * 65536))) u.pc h (omega arith) refl upc) refl (next-on ra v u) in
    let tpc : t.pc ≡ word_address (w + 2) = ap (λ k. k + 4) (pc-with ra v u ∙ upc) ∙ (let e : word_address (w + 1) + 4 ≡ word_address (w + 2) = omega arith in e) in
    let high : register u ra ≡ high_of n * 65536 = read-same ra a s lt len ∙ high-word n small in
    let value : v ≡ n = ap (λ k. word_at (k + word_from (pos n -ℤ pos (high_of n * 65536)))) high ∙ rest-word (pos n -ℤ pos (high_of n * 65536)) n (high_of n * 65536) refl small (omega arith) in
    record {
      to = t;
      comes = steps_add_up p s u t first second;
      pc = tpc;
      has = record {
        here = read-same ra v u lt ulen ∙ value;
        others = λ r ne. read-other ra r v u ne ∙ read-other ra r a s ne;
        same = same-through s u t same1 (same-through u (with_register ra v u) t (same-with ra v u) (same-at (with_register ra v u) t.pc));
      };
    }

label-small : (p : Program) (there : Labels) (l : ℕ) → IsLawful p → ((l : ℕ) → there l ≤ length p.words) → word_address (there l) < most_address
label-small p there l lawful labels = let n = lawful.words in let h = labels l in omega (arith, n, h)

pub text_address_steps : (p : Program) (there : Labels) (w ra l : ℕ) (items : List AsmItem) (end : ℕ) (s : State) → StandsAt p there w (TextAddress ra l) items end s → ra < 31 → AddressDone p there w items end ra (word_address (there l)) s
text_address_steps p there w ra l items end s h lt =
    let r = address-loaded p ra (word_address (there l)) w s lt (label-small p there l h.lawful h.labels) h.items_at.1 h.pc h.registers in
    record { to = r.to; behind = record { comes = r.comes; next = w + 2; pc = r.pc; items_at = h.items_at.2 }; has = r.has }

pub data_address_steps : (p : Program) (there : Labels) (w ra offset : ℕ) (items : List AsmItem) (end : ℕ) (s : State) → StandsAt p there w (DataAddress ra offset) items end s → ra < 31 → data_start p + offset < most_address → AddressDone p there w items end ra (data_start p + offset) s
data_address_steps p there w ra offset items end s h lt small =
    let r = address-loaded p ra (data_start p + offset) w s lt small h.items_at.1 h.pc h.registers in
    record { to = r.to; behind = record { comes = r.comes; next = w + 2; pc = r.pc; items_at = h.items_at.2 }; has = r.has }

-- ---- branches

not_not : (b : Bool) → not (not b) ≡ b
not_not true = refl
not_not false = refl

one_of_two : (n : ℕ) → n < 2 → (eqb n 1 ≡ not (eqb n 0)) × (eqb n 0 ≡ not (eqb n 1))
one_of_two zero lt = (refl, refl)
one_of_two (suc zero) lt = (refl, refl)
one_of_two (suc (suc n)) lt = absurd (omega arith)

odd_not_even : (a : ℕ) → is_branch_taken Blbs a ≡ not (is_branch_taken Blbc a)
odd_not_even a = (one_of_two (a % 2) (omega arith)).0

even_not_odd : (a : ℕ) → is_branch_taken Blbc a ≡ not (is_branch_taken Blbs a)
even_not_odd a = (one_of_two (a % 2) (omega arith)).1

-- a branch that stands near goes to its label
near-target : (z : ℤ) (here there : ℕ) → z ≡ displacement here there *ℤ pos 4 → here < 2 ^ 29 → there ≤ 2 ^ 29 → word_at (word_address here + 4 + word_from z) ≡ word_address there
near-target (pos d) here there e a b = let f : d + 4 * (here + 1) ≡ 4 * there = omega (arith, ints, e) in omega (arith, f)
near-target (negsuc d) here there e a b = let f : 4 * there + suc d ≡ 4 * (here + 1) = omega (arith, ints, e) in omega (arith, f)

-- the registers of a state in which only register 28 differs, with a word in one of them
with-agree : (r v : ℕ) (s u : State) → r < 32 → length s.registers ≡ 32 → length u.registers ≡ 32 → ((q : ℕ) → q ≢ 28 → register u q ≡ register s q) → (q : ℕ) → q ≢ 28 → register (with_register r v u) q ≡ register (with_register r v s) q
with-agree r v s u lt ls lu agree q ne = elim (cases_eq r 31) [
  | inl e ↦ read-lost r q v u e ∙ agree q ne ∙ sym (read-lost r q v s e)
  | inr kept ↦ elim (cases_eq q r) [
    | inl e ↦ ap (register (with_register r v u)) e ∙ read-same r v u (omega arith) lu ∙ sym (read-same r v s (omega arith) ls) ∙ sym (ap (register (with_register r v s)) e)
    | inr other ↦ read-other r q v u other ∙ agree q ne ∙ sym (read-other r q v s other)
  ]
]

module _ (p : Program) (there : Labels) (w ra l : ℕ) (items : List AsmItem) (end : ℕ) (s : State) (r32 : ra < 32) (lawful_image : IsLawful p) (labels : (l : ℕ) → there l ≤ length p.words) (stands : s.pc ≡ word_address w) (len : length s.registers ≡ 32) where
  label_small : word_address (there l) < most_address
  label_small = label-small p there l lawful_image labels

  -- ---- near

  link-same : (b : Bool) (v : ℕ) → SameElse s (if b then with_register ra v s else s)
  link-same true v = same-with ra v s
  link-same false v = record { registers = refl; data_bytes = refl; stack_bytes = refl; input = refl; output = refl }

  link-words : (b : Bool) (v : ℕ) → v < 2 ^ 64 → HoldsWords s → HoldsWords (if b then with_register ra v s else s)
  link-words true v small words = words-with ra v s r32 len small words
  link-words false v small words = words

  near-done : (op : BranchOp) → InsnsAt p w (fields.Branch op ra (displacement w (there l)) ∷ []) → ItemsAt p there (w + 1) items end → BranchDone p there op ra l items end s
  near-done op h rest =
      let none : w + 0 ≡ w = omega arith in
      let below = within-text p w (fields.Branch op ra (displacement w (there l)) ∷ []) h (omega arith) in
      let n = lawful_image.words in
      let m = labels l in
      let behind : next_pc s ≡ word_address (w + 1) = ap (λ k. k + 4) stands ∙ (let e : word_address w + 4 ≡ word_address (w + 1) = omega arith in e) in
      let target : branch_target s (displacement w (there l)) ≡ word_address (there l) =
      ap (λ k. word_at (k + 4 + word_from (displacement w (there l) *ℤ pos 4))) stands ∙ near-target (displacement w (there l) *ℤ pos 4) w (there l) refl (omega (arith, below, n)) (omega (arith, m, n)) in
      let linked = if links op then with_register ra (next_pc s) s else s in
      let t = record linked { pc = if is_branch_taken op (register s ra) then branch_target s (displacement w (there l)) else next_pc s } in
      let is = fetched p w 0 (fields.Branch op ra (displacement w (there l)) ∷ []) (fields.Branch op ra (displacement w (there l))) s.pc h (omega arith) refl (stands ∙ ap word_address (sym none)) in
      record {
        to = t;
        next = w + 1;
        within = omega (arith, below);
        comes = one-leaves p (word_address (w + 1)) s t (fields.Branch op ra (displacement w (there l))) is refl (omega (arith, behind));
        some = one-some p (word_address (w + 1)) s t (fields.Branch op ra (displacement w (there l))) is refl (omega (arith, behind));
        items_at = rest;
        pc = chosen (is_branch_taken op (register s ra)) target behind;
        registers = λ r ne. ap (λ v. register (if links op then with_register ra v s else s) r) behind;
        words = link-words (links op) (next_pc s) (omega (arith, behind, below, n));
        same = same-through s linked t (link-same (links op) (next_pc s)) (same-at linked t.pc);
      }
    where
      chosen : (b : Bool) → branch_target s (displacement w (there l)) ≡ word_address (there l) → next_pc s ≡ word_address (w + 1) → (if b then branch_target s (displacement w (there l)) else next_pc s) ≡ word_address (if b then there l else w + 1)
      chosen true e f = e
      chosen false e f = f

  -- ---- far

  -- to a label through register 28
  abbrev far_jump : JumpOp → (link : ℕ) → List Fields
  far_jump op link = fields.Memory Ldah 28 31 (pos (high_of (word_address (there l)))) ∷ fields.Memory Lda 28 28 (pos (word_address (there l)) -ℤ pos (high_of (word_address (there l)) * 65536)) ∷ fields.Jump op link 28 ∷ []

  record JumpDone (link v : ℕ) (u : State) : Type 0 where
    to : State
    comes : Leaves p (word_address v) u to
    some : 1 ≤ comes.steps
    pc : to.pc ≡ word_address (there l)
    registers : (r : ℕ) → r ≢ 28 → register to r ≡ register (with_register link (word_address v) u) r
    words : HoldsWords u → HoldsWords to
    same : SameElse u to

  jumped : (op : JumpOp) (link from : ℕ) (u : State) → link < 32 → length u.registers ≡ 32 → u.pc ≡ word_address from → InsnsAt p from (far_jump op link) → JumpDone link (from + 3) u
  jumped op link from u link32 ulen upc h =
      let first : InsnsAt p from (address_insns 28 (word_address (there l))) = λ k lt. h k (omega arith) ∙ front k lt in
      let a = address-loaded p 28 (word_address (there l)) from u (omega arith) label_small first upc ulen in
      let alen : length a.to.registers ≡ 32 = a.has.same.registers ∙ ulen in
      let t = record (with_register link (next_pc a.to) a.to) { pc = register a.to 28 / 4 * 4 } in
      let behind : next_pc a.to ≡ word_address (from + 3) = ap (λ k. k + 4) a.pc ∙ (let e : word_address (from + 2) + 4 ≡ word_address (from + 3) = omega arith in e) in
      let target : register a.to 28 / 4 * 4 ≡ word_address (there l) = ap (λ k. k / 4 * 4) a.has.here ∙ (let e : word_address (there l) / 4 * 4 ≡ word_address (there l) = omega arith in e) in
      let agree = λ (q : ℕ) (ne : q ≢ 28). a.has.others q ne in
      let below = within-text p from (far_jump op link) h (omega arith) in
      let n = lawful_image.words in
      let is = fetched p from 2 (far_jump op link) (fields.Jump op link 28) (a.to).pc h (omega arith) refl a.pc in
      let last = one-leaves p (word_address (from + 3)) a.to t (fields.Jump op link 28) is refl (omega (arith, behind)) in
      record {
        to = t;
        comes = leaves_behind p (word_address (from + 3)) u a.to t a.comes last;
        some = behind-some p (word_address (from + 3)) u a.to t a.comes last (one-some p (word_address (from + 3)) a.to t (fields.Jump op link 28) is refl (omega (arith, behind)));
        pc = target;
        registers = λ r ne. ap (λ v. register (with_register link v a.to) r) behind ∙ with-agree link (word_address (from + 3)) u a.to link32 ulen alen agree r ne;
        words = λ words. words-with link (next_pc a.to) a.to link32 alen (omega (arith, behind, below, n)) (loaded-words a.to a.has words);
        same = same-through u a.to t a.has.same (same-through a.to (with_register link (next_pc a.to) a.to) t (same-with link (next_pc a.to) a.to) (same-at (with_register link (next_pc a.to) a.to) t.pc));
      }
    where
      loaded-words : (t : State) → HasAddress 28 (word_address (there l)) u t → HoldsWords u → HoldsWords t
      loaded-words t has words q = elim (cases_eq q 28) [
        | inl e ↦ subst (λ k. register t k < 2 ^ 64) (sym e) (subst (λ k. k < 2 ^ 64) (sym has.here) (omega (arith, label_small)))
        | inr ne ↦ subst (λ k. k < 2 ^ 64) (sym (has.others q ne)) (words q)
      ]

      front : (k : ℕ) → k < 2 → slice_get (far_jump op link) k ≡ slice_get (address_insns 28 (word_address (there l))) k
      front zero lt = refl
      front (suc zero) lt = refl
      front (suc (suc k)) lt = absurd (omega arith)

  -- an unconditional branch
  always-done : (op : BranchOp) (jump : JumpOp) → links op ≡ true → is_branch_taken op (register s ra) ≡ true → InsnsAt p w (far_jump jump ra) → ItemsAt p there (w + 3) items end → BranchDone p there op ra l items end s
  always-done op jump linked taken h rest =
      let j = jumped jump ra w s r32 len stands h in
      record {
        to = j.to;
        next = w + 3;
        within = last-within p w (far_jump jump ra) 2 (fields.Jump jump ra 28) h (omega arith) refl;
        comes = j.comes;
        some = j.some;
        items_at = rest;
        pc = j.pc ∙ ap (λ b. word_address (if b then there l else w + 3)) (sym taken);
        registers = λ r ne. j.registers r ne ∙ ap (λ b. register (if b then with_register ra (word_address (w + 3)) s else s) r) (sym linked);
        words = j.words;
        same = j.same;
      }

  -- a condition that does not hold passes over the jump
  record FarDone (op : BranchOp) : Type 0 where
    to : State
    within : w + 4 ≤ length p.words
    comes : Leaves p (word_address (w + 4)) s to
    some : 1 ≤ comes.steps
    pc : to.pc ≡ word_address (if is_branch_taken op (register s ra) then there l else w + 4)
    registers : (r : ℕ) → r ≢ 28 → register to r ≡ register s r
    words : HoldsWords s → HoldsWords to
    same : SameElse s to

  conditional-far : (op : BranchOp) → links (inverse op) ≡ false → (b : Bool) → is_branch_taken op (register s ra) ≡ b → is_branch_taken (inverse op) (register s ra) ≡ not b → InsnsAt p w (fields.Branch (inverse op) ra (pos 3) ∷ far_jump Jmp 31) → FarDone op
  conditional-far op no_link b taken passed h =
      let none : w + 0 ≡ w = omega arith in
      let below = within-text p w (fields.Branch (inverse op) ra (pos 3) ∷ far_jump Jmp 31) h (omega arith) in
      let n = lawful_image.words in
      let over : branch_target s (pos 3) ≡ word_address (w + 4) = ap (λ k. word_at (k + 4 + 12)) stands ∙ (let e : word_at (word_address w + 4 + 12) ≡ word_address (w + 4) = omega (arith, below, n) in e) in
      let behind : next_pc s ≡ word_address (w + 1) = ap (λ k. k + 4) stands ∙ (let e : word_address w + 4 ≡ word_address (w + 1) = omega arith in e) in
      let linked = if links (inverse op) then with_register ra (next_pc s) s else s in
      let t = record linked { pc = if is_branch_taken (inverse op) (register s ra) then branch_target s (pos 3) else next_pc s } in
      let is = fetched p w 0 (fields.Branch (inverse op) ra (pos 3) ∷ far_jump Jmp 31) (fields.Branch (inverse op) ra (pos 3)) s.pc h (omega arith) refl (stands ∙ ap word_address (sym none)) in
      let passed_by = one-leaves p (word_address (w + 4)) s t (fields.Branch (inverse op) ra (pos 3)) is refl (omega (arith, behind)) in
      let some = one-some p (word_address (w + 4)) s t (fields.Branch (inverse op) ra (pos 3)) is refl (omega (arith, behind)) in
      let first = one-step p s t (fields.Branch (inverse op) ra (pos 3)) is refl in
      let same : SameElse s t = same-through s linked t (link-same (links (inverse op)) (next_pc s)) (same-at linked t.pc) in
      let regs = λ (r : ℕ). ap (λ x. register (if x then with_register ra (next_pc s) s else s) r) no_link in
      by_test b taken (ap (λ x. if x then branch_target s (pos 3) else next_pc s) passed) over behind t passed_by some first same regs refl
    where
      jump-at : InsnsAt p (w + 1) (far_jump Jmp 31)
      jump-at k lt = let e : w + 1 + k ≡ w + suc k = omega arith in ap (λ j. instruction_at p (word_address j)) e ∙ h (suc k) (omega arith)

      by_test : (b : Bool) → is_branch_taken op (register s ra) ≡ b → (if is_branch_taken (inverse op) (register s ra) then branch_target s (pos 3) else next_pc s) ≡ (if not b then branch_target s (pos 3) else next_pc s) → branch_target s (pos 3) ≡ word_address (w + 4) → next_pc s ≡ word_address (w + 1) → (t : State) (passed_by : Leaves p (word_address (w + 4)) s t) → 1 ≤ passed_by.steps → (s.pc + 4 ≤ t.pc → Comes p s t) → SameElse s t → ((r : ℕ) → register t r ≡ register s r) → t.pc ≡ (if is_branch_taken (inverse op) (register s ra) then branch_target s (pos 3) else next_pc s) → FarDone op
      by_test false taken at over behind t passed_by some first same regs tpc = record {
        to = t;
        within = last-within p w (fields.Branch (inverse op) ra (pos 3) ∷ far_jump Jmp 31) 3 (fields.Jump Jmp 31 28) h (omega arith) refl;
        comes = passed_by;
        some = some;
        pc = tpc ∙ at ∙ over ∙ ap (λ x. word_address (if x then there l else w + 4)) (sym taken);
        registers = λ r ne. regs r;
        words = λ words r. subst (λ k. k < 2 ^ 64) (sym (regs r)) (words r);
        same = same;
      }
      by_test true taken at over behind t passed_by some first same regs tpc =
          let j = jumped Jmp 31 (w + 1) t (omega arith) (same.registers ∙ len) (tpc ∙ at ∙ behind) jump-at in
          let near : t.pc ≡ next_pc s = tpc ∙ at in
          let onward = later p (word_address (w + 1 + 3)) (word_address (w + 4)) t j.to j.comes (omega arith) in
          record {
            to = j.to;
            within = last-within p w (fields.Branch (inverse op) ra (pos 3) ∷ far_jump Jmp 31) 3 (fields.Jump Jmp 31 28) h (omega arith) refl;
            comes = leaves_behind p (word_address (w + 4)) s t j.to (first (omega (arith, near))) onward;
            some = behind-some p (word_address (w + 4)) s t j.to (first (omega (arith, near))) onward (later-some p (word_address (w + 1 + 3)) (word_address (w + 4)) t j.to j.comes (omega arith) j.some);
            pc = j.pc ∙ ap (λ x. word_address (if x then there l else w + 4)) (sym taken);
            registers = λ r ne. j.registers r ne ∙ read-lost 31 r (word_address (w + 1 + 3)) t refl ∙ regs r;
            words = λ words. j.words (λ r. subst (λ k. k < 2 ^ 64) (sym (regs r)) (words r));
            same = same-through s t j.to same j.same;
          }

  far-branch : (op : BranchOp) → links op ≡ false → FarDone op → ItemsAt p there (w + 4) items end → BranchDone p there op ra l items end s
  far-branch op no_link f rest = record {
    to = f.to;
    next = w + 4;
    within = f.within;
    comes = f.comes;
    some = f.some;
    items_at = rest;
    pc = f.pc;
    registers = λ r ne. f.registers r ne ∙ sym (ap (λ x. register (if x then with_register ra (word_address (w + 4)) s else s) r) no_link);
    words = f.words;
    same = f.same;
  }

  far-done : (op : BranchOp) → InsnsAt p w (far_insns op ra (word_address (there l))) → ItemsAt p there (w + item_words true (Branch op ra l)) items end → BranchDone p there op ra l items end s
  far-done Br h rest = always-done Br Jmp refl refl h rest
  far-done Bsr h rest = always-done Bsr Jsr refl refl h rest
  far-done Blbc h rest = far-branch Blbc refl (conditional-far Blbc refl (is_branch_taken Blbc (register s ra)) refl (odd_not_even (register s ra)) h) rest
  far-done Blbs h rest = far-branch Blbs refl (conditional-far Blbs refl (is_branch_taken Blbs (register s ra)) refl (even_not_odd (register s ra)) h) rest
  far-done Beq h rest = far-branch Beq refl (conditional-far Beq refl (is_branch_taken Beq (register s ra)) refl refl h) rest
  far-done Bne h rest = far-branch Bne refl (conditional-far Bne refl (is_branch_taken Bne (register s ra)) refl (sym (not_not (is_branch_taken Beq (register s ra)))) h) rest
  far-done Blt h rest = far-branch Blt refl (conditional-far Blt refl (is_branch_taken Blt (register s ra)) refl refl h) rest
  far-done Bge h rest = far-branch Bge refl (conditional-far Bge refl (is_branch_taken Bge (register s ra)) refl (sym (not_not (is_branch_taken Blt (register s ra)))) h) rest
  far-done Ble h rest = far-branch Ble refl (conditional-far Ble refl (is_branch_taken Ble (register s ra)) refl (sym (not_not (is_branch_taken Bgt (register s ra)))) h) rest
  far-done Bgt h rest = far-branch Bgt refl (conditional-far Bgt refl (is_branch_taken Bgt (register s ra)) refl refl h) rest

  branch-done : (op : BranchOp) (far : Bool) → InsnsAt p w (item_insns there (data_start p) w far (Branch op ra l)) → ItemsAt p there (w + item_words far (Branch op ra l)) items end → BranchDone p there op ra l items end s
  branch-done op false h rest = near-done op h rest
  branch-done op true h rest = far-done op h rest

pub branches_step : (p : Program) (there : Labels) (w : ℕ) (op : BranchOp) (ra l : ℕ) (items : List AsmItem) (end : ℕ) (s : State) → StandsAt p there w (Branch op ra l) items end s → ra < 32 → BranchDone p there op ra l items end s
branches_step p there w op ra l items end s h r32 = branch-done p there w ra l items end s r32 h.lawful h.labels h.pc h.registers op h.items_at.0 h.items_at.1 h.items_at.2
