-- Register 30 is lowered and raised.
use Rattle.std.proofs.Common.{◌≡◌, ◌≢◌, ℕ, suc, ◌+◌, ◌-◌, ◌*◌, ◌^◌, ◌<◌, Bool, true, false, List, ◌∷◌, refl, ap, ◌∙◌, arith}
use Rattle.std.specs.Prelude.{ℤ, pos, negsuc, ◌-ℤ◌, ◌*ℤ◌, nat_lt, if◌then◌else◌}
use Rattle.std.proofs.lemmas.Int.{ints}
use Rattle.alpha_isa.specs.declared.insn.Fields.TheVariants.{Memory}
use Rattle.alpha_isa.specs.declared.insn.MemoryOp.TheVariants.{Lda, Ldah}
use Rattle.alpha_isa.specs.Arithmetic.{word_at, word_from}
use Rattle.alpha_isa.specs.Program.{Program}
use Rattle.alpha_isa.specs.State.{State, register, with_register}
use Rattle.alpha_isa.specs.Step.{memory_address, next_instruction}
use Rattle.alpha_items.specs.declared.item.AsmItem.{AsmItem}
use Rattle.alpha_items.specs.declared.item.AsmItem.TheVariants.{Plain}
use Rattle.alpha_items.specs.Words.{high_of, most_address}
use Rattle.frame_steps.specs.item_steps.Standing.{Labels}
use Rattle.frame_steps.proofs.ItemSteps.Steps.{steps_add_up}
use Rattle.frame_memory.specs.Machine.{memory_bytes}
use Rattle.frame_steps.specs.frame_accesses.Items.{near_size}
use Rattle.frame_steps.specs.frame_accesses.Laws.{IsAt, HasCome}
use Rattle.frame_steps.proofs.FrameAccesses.Runs.{WritesWord, word-written}
use Rattle.frame_steps.specs.call_parts.Items.{high_below, lower_stack, raise_stack}

-- ---- sums

-- a number that is negative, or zero
down-sum : (z : ℤ) (sp n : ℕ) → z ≡ pos 0 -ℤ pos n → sp + n < 2 ^ 64 → word_at (sp + n + word_from z) ≡ sp
down-sum (pos d) sp n e small = let f : d + n ≡ 0 = omega (arith, ints, e) in let g : word_at (sp + n + d) ≡ sp = omega (arith, f, small) in g
down-sum (negsuc d) sp n e small = let f : suc d ≡ n = omega (arith, ints, e) in let g : word_at (sp + n + (2 ^ 64 - suc d)) ≡ sp = omega (arith, f, small) in g

-- the way down by a multiple of 65,536, which may pass below 0
down-high : (z : ℤ) (x high : ℕ) → z ≡ (pos 0 -ℤ pos high) *ℤ pos 65536 → x < 2 ^ 64 → high < 2 ^ 40 → word_at (x + word_from z) ≡ word_at (x + (2 ^ 64 - high * 65536))
down-high (pos d) x high e lt small = let f : d + high * 65536 ≡ 0 = omega (arith, ints, e) in let g : word_at (x + d) ≡ word_at (x + (2 ^ 64 - high * 65536)) = omega (arith, f, lt) in g
down-high (negsuc d) x high e lt small = let f : suc d ≡ high * 65536 = omega (arith, ints, e) in let g : word_at (x + (2 ^ 64 - suc d)) ≡ word_at (x + (2 ^ 64 - high * 65536)) = omega (arith, f) in g

down-rest : (z : ℤ) (sp n high : ℕ) → z ≡ pos (high * 65536) -ℤ pos n → sp + n < 2 ^ 64 → n < most_address → high < 2 ^ 40 → word_at (word_at (sp + n + (2 ^ 64 - high * 65536)) + word_from z) ≡ sp
down-rest (pos d) sp n high e small near lt = let f : d + n ≡ high * 65536 = omega (arith, ints, e) in let g : word_at (word_at (sp + n + (2 ^ 64 - high * 65536)) + d) ≡ sp = omega (arith, f, small, near, lt) in g
down-rest (negsuc d) sp n high e small near lt = let f : high * 65536 + suc d ≡ n = omega (arith, ints, e) in let g : word_at (word_at (sp + n + (2 ^ 64 - high * 65536)) + (2 ^ 64 - suc d)) ≡ sp = omega (arith, f, small, near, lt) in g

up-rest : (z : ℤ) (sp n high : ℕ) → z ≡ pos n -ℤ pos high → sp + n < 2 ^ 64 → n < 2 ^ 63 → high < 2 ^ 63 → word_at (word_at (sp + high) + word_from z) ≡ sp + n
up-rest (pos d) sp n high e small a b = let f : d + high ≡ n = omega (arith, ints, e) in let g : word_at (word_at (sp + high) + d) ≡ sp + n = omega (arith, f) in g
up-rest (negsuc d) sp n high e small a b = let f : n + suc d ≡ high = omega (arith, ints, e) in let g : word_at (word_at (sp + high) + (2 ^ 64 - suc d)) ≡ sp + n = omega (arith, f) in g

-- ---- what the machine does

-- behind some items and behind others
pub come-through : (p : Program) (there : Labels) (mid rest : List AsmItem) (end : ℕ) (s t u : State) → HasCome p there mid end s t → HasCome p there rest end t u → HasCome p there rest end s u
come-through p there mid rest end s t u a b = record {
  comes = steps_add_up p s t u a.comes b.comes;
  next = b.next;
  is_at = b.is_at;
  input = b.input ∙ a.input;
  output = b.output ∙ a.output;
  reached = λ y. b.reached y ∙ a.reached y;
}

-- register 30 holds another word
pub record StackMoved (p : Program) (there : Labels) (rest : List AsmItem) (end v : ℕ) (s : State) : Type 0 where
  pub to : State
  pub come : HasCome p there rest end s to
  pub here : register to 30 ≡ v
  pub others : (q : ℕ) → q ≢ 30 → register to q ≡ register s q
  pub bytes : memory_bytes p to ≡ memory_bytes p s

once : (p : Program) (there : Labels) (rest : List AsmItem) (end v : ℕ) (s : State) → WritesWord p there rest end 30 v s → StackMoved p there rest end v s
once p there rest end v s x = record { to = x.to; come = x.come; here = x.here; others = x.others; bytes = x.bytes }

twice : (p : Program) (there : Labels) (mid rest : List AsmItem) (end u v : ℕ) (s : State) (x : WritesWord p there mid end 30 u s) → WritesWord p there rest end 30 v x.to → StackMoved p there rest end v s
twice p there mid rest end u v s x y = record {
  to = y.to;
  come = come-through p there mid rest end s x.to y.to x.come y.come;
  here = y.here;
  others = λ q ne. y.others q ne ∙ x.others q ne;
  bytes = y.bytes ∙ x.bytes;
}

pub stack-lowered : (p : Program) (there : Labels) (w n sp : ℕ) (rest : List AsmItem) (end : ℕ) (s : State) → IsAt p there w (lower_stack n rest) end s → register s 30 ≡ sp + n → sp + n < 2 ^ 64 → n < most_address → StackMoved p there rest end sp s
stack-lowered p there w n sp rest end s h e small near = by_test (nat_lt n near_size) h
  where
    by_test : (b : Bool) → IsAt p there w (if b then Plain (Memory Lda 30 30 (pos 0 -ℤ pos n)) ∷ rest else Plain (Memory Ldah 30 30 (pos 0 -ℤ pos (high_below n))) ∷ Plain (Memory Lda 30 30 (pos (high_below n * 65536) -ℤ pos n)) ∷ rest) end s → StackMoved p there rest end sp s
    by_test true h =
        let f : memory_address s 30 (pos 0 -ℤ pos n) ≡ sp = ap (λ k. word_at (k + word_from (pos 0 -ℤ pos n))) e ∙ down-sum (pos 0 -ℤ pos n) sp n refl small in
        once p there rest end sp s (word-written p there w (Memory Lda 30 30 (pos 0 -ℤ pos n)) rest end 30 sp s h (omega arith) (omega (arith, small)) (ap (λ v. next_instruction (with_register 30 v s)) f))
    by_test false h =
        let u = word_at (sp + n + (2 ^ 64 - high_below n * 65536)) in
        let high : high_below n < 2 ^ 40 = omega (arith, near) in
        let f : memory_address s 30 ((pos 0 -ℤ pos (high_below n)) *ℤ pos 65536) ≡ u = ap (λ k. word_at (k + word_from ((pos 0 -ℤ pos (high_below n)) *ℤ pos 65536))) e ∙ down-high ((pos 0 -ℤ pos (high_below n)) *ℤ pos 65536) (sp + n) (high_below n) refl small high in
        let mid = Plain (Memory Lda 30 30 (pos (high_below n * 65536) -ℤ pos n)) ∷ rest in
        let x = word-written p there w (Memory Ldah 30 30 (pos 0 -ℤ pos (high_below n))) mid end 30 u s h (omega arith) (omega arith) (ap (λ v. next_instruction (with_register 30 v s)) f) in
        let k : memory_address x.to 30 (pos (high_below n * 65536) -ℤ pos n) ≡ sp = ap (λ z. word_at (z + word_from (pos (high_below n * 65536) -ℤ pos n))) x.here ∙ down-rest (pos (high_below n * 65536) -ℤ pos n) sp n (high_below n) refl small near high in
        twice p there mid rest end u sp s x (word-written p there x.come.next (Memory Lda 30 30 (pos (high_below n * 65536) -ℤ pos n)) rest end 30 sp x.to x.come.is_at (omega arith) (omega (arith, small)) (ap (λ v. next_instruction (with_register 30 v x.to)) k))

pub stack-raised : (p : Program) (there : Labels) (w n sp : ℕ) (rest : List AsmItem) (end : ℕ) (s : State) → IsAt p there w (raise_stack n rest) end s → register s 30 ≡ sp → sp + n < 2 ^ 64 → n < most_address → StackMoved p there rest end (sp + n) s
stack-raised p there w n sp rest end s h e small near = by_test (nat_lt n near_size) h
  where
    by_test : (b : Bool) → IsAt p there w (if b then Plain (Memory Lda 30 30 (pos n)) ∷ rest else Plain (Memory Ldah 30 30 (pos (high_of n))) ∷ Plain (Memory Lda 30 30 (pos n -ℤ pos (high_of n * 65536))) ∷ rest) end s → StackMoved p there rest end (sp + n) s
    by_test true h =
        let f : memory_address s 30 (pos n) ≡ sp + n = ap (λ k. word_at (k + word_from (pos n))) e ∙ (let g : word_at (sp + n) ≡ sp + n = omega (arith, small) in g) in
        once p there rest end (sp + n) s (word-written p there w (Memory Lda 30 30 (pos n)) rest end 30 (sp + n) s h (omega arith) small (ap (λ v. next_instruction (with_register 30 v s)) f))
    by_test false h =
        let u = word_at (sp + high_of n * 65536) in
        let f : memory_address s 30 (pos (high_of n) *ℤ pos 65536) ≡ u = ap (λ k. word_at (k + high_of n * 65536)) e in
        let mid = Plain (Memory Lda 30 30 (pos n -ℤ pos (high_of n * 65536))) ∷ rest in
        let x = word-written p there w (Memory Ldah 30 30 (pos (high_of n))) mid end 30 u s h (omega arith) (omega arith) (ap (λ v. next_instruction (with_register 30 v s)) f) in
        let k : memory_address x.to 30 (pos n -ℤ pos (high_of n * 65536)) ≡ sp + n = ap (λ z. word_at (z + word_from (pos n -ℤ pos (high_of n * 65536)))) x.here ∙ up-rest (pos n -ℤ pos (high_of n * 65536)) sp n (high_of n * 65536) refl small (omega (arith, near)) (omega (arith, near)) in
        twice p there mid rest end u (sp + n) s x (word-written p there x.come.next (Memory Lda 30 30 (pos n -ℤ pos (high_of n * 65536))) rest end 30 (sp + n) x.to x.come.is_at (omega arith) small (ap (λ v. next_instruction (with_register 30 v x.to)) k))
