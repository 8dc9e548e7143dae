-- Runs of instructions that stand one behind the other: operations on registers, which go on with the next
-- instruction, and branches.
use Rattle.std.proofs.Common.{◌≡◌, ℕ, suc, ◌+◌, ◌*◌, ◌<◌, ◌≤◌, ℤ, List, [], ◌∷◌, ◌++◌, length, Bool, true, false, cond, eqb, Option, Some, None, refl, ap, ◌∙◌, subst, arith}
use Rattle.std.specs.Prelude.{◌==◌, if◌then◌else◌, slice_index, slice_set, slice_get, option_and_then}
use Rattle.alpha_isa.specs.declared.insn.Fields.{Fields}
use Rattle.alpha_isa.specs.declared.insn.Fields.TheVariants.{Memory, Branch, Operate}
use Rattle.alpha_isa.specs.declared.insn.Operand.{Operand}
use Rattle.alpha_isa.specs.declared.insn.Operand.TheVariants.{Reg, Literal}
use Rattle.alpha_isa.specs.declared.insn.MemoryOp.TheVariants.{Lda}
use Rattle.alpha_isa.specs.declared.insn.BranchOp.{BranchOp}
use Rattle.alpha_isa.specs.Arithmetic.{OperationEffect, Gives, Keeps, Overflows, word_at, word_from, operation_effect}
use Rattle.alpha_isa.specs.Program.{Program, instruction_at, word_address}
use Rattle.alpha_isa.specs.State.{State, with_register}
use Rattle.alpha_isa.specs.Step.{MachineNext, Goes, next_instruction, branch_target, is_branch_taken, links, operate_step, insn_step, fetched_step, step, go_on, exec}
use Rattle.alpha_isa.proofs.Runs.{exec_split}

-- ---- what a run comes to

pub record Reaches (p : Program) (most : ℕ) (s t : State) : Type 0 where
  pub steps : ℕ
  pub soon : steps ≤ most
  pub run : exec p steps s ≡ Goes t

pub stays : (p : Program) (s : State) → Reaches p 0 s s
unfolding exec
stays p s = record { steps = 0; soon = omega arith; run = refl }

pub then_reaches : (p : Program) (m k : ℕ) (s t u : State) → Reaches p m s t → Reaches p k t u → Reaches p (m + k) s u
then_reaches p m k s t u a b = record {
  steps = a.steps + b.steps;
  soon = omega arith;
  run = exec_split p a.steps b.steps s ∙ ap (λ r. go_on r (exec p b.steps)) a.run ∙ b.run;
}

pub at_most : (p : Program) (m k : ℕ) (s t : State) → m ≤ k → Reaches p m s t → Reaches p k s t
at_most p m k s t le a = record { steps = a.steps; soon = omega arith; run = a.run }

pub one_done : (p : Program) (n : ℕ) (i : Fields) (s t : State) → instruction_at p s.pc ≡ Some i → insn_step p i s ≡ Goes t → exec p (suc n) s ≡ exec p n t
unfolding exec step
one_done p n i s t h e = ap (λ o. go_on (fetched_step p o s) (exec p n)) h ∙ ap (λ r. go_on r (exec p n)) e

pub one_reaches : (p : Program) (i : Fields) (s t : State) → instruction_at p s.pc ≡ Some i → insn_step p i s ≡ Goes t → Reaches p 1 s t
unfolding exec
one_reaches p i s t h e = record { steps = 1; soon = omega arith; run = one_done p 0 i s t h e }

-- ---- instructions in a row

abbrev pub CodeStandsAt : Program → ℕ → List Fields → Type 0
CodeStandsAt p a [] = Unit {0}
CodeStandsAt p a (i ∷ is) = (instruction_at p a ≡ Some i) × CodeStandsAt p (a + 4) is

pub placed_from : (p : Program) (is : List Fields) (w : ℕ) → ((k : ℕ) → k < length is → instruction_at p (word_address (w + k)) ≡ slice_get is k) → CodeStandsAt p (word_address w) is
placed_from p [] w h = tt
placed_from p (i ∷ is) w h =
    let none : w + 0 ≡ w = omega arith in
    let next : word_address (w + 1) ≡ word_address w + 4 = omega arith in (
      subst (λ n. instruction_at p (word_address n) ≡ Some i) none (h 0 (omega arith)),
      subst (λ a. CodeStandsAt p a is) next (placed_from p is (w + 1) (λ k below.
          let further : w + suc k ≡ w + 1 + k = omega arith in
          subst (λ n. instruction_at p (word_address n) ≡ slice_get is k) further (h (suc k) (omega arith)))),
    )

pub front : (p : Program) (a : ℕ) (xs ys : List Fields) → CodeStandsAt p a (xs ++ ys) → CodeStandsAt p a xs
front p a [] ys h = tt
front p a (x ∷ xs) ys h = (h.0, front p (a + 4) xs ys h.1)

pub behind : (p : Program) (a : ℕ) (xs ys : List Fields) → CodeStandsAt p a (xs ++ ys) → CodeStandsAt p (a + 4 * length xs) ys
behind p a [] ys h = let none : a ≡ a + 4 * 0 = omega arith in subst (λ n. CodeStandsAt p n ys) none h
behind p a (x ∷ xs) ys h =
    let further : a + 4 + 4 * length xs ≡ a + 4 * suc (length xs) = omega arith in
    subst (λ n. CodeStandsAt p n ys) further (behind p (a + 4) xs ys h.1)

-- ---- operations on registers

-- the machine at a place with these registers, and all else as in a state
abbrev pub at : State → ℕ → List ℕ → State
at s a rs = record s { pc = a; registers = rs }

abbrev pub register_of : List ℕ → ℕ → ℕ
register_of rs r = if r == 31 then 0 else slice_index rs r

abbrev pub put : ℕ → ℕ → List ℕ → List ℕ
put r word rs = if r == 31 then rs else slice_set rs r word

abbrev pub operand_of : List ℕ → Operand → ℕ
operand_of rs (Reg r) = register_of rs r
operand_of rs (Literal n) = n

abbrev pub effect_on : OperationEffect → ℕ → List ℕ → Option (List ℕ)
effect_on (Gives word) rc rs = Some (put rc word rs)
effect_on Keeps rc rs = Some rs
effect_on Overflows rc rs = None

-- the registers after an operation, none where it is another instruction or traps
abbrev pub after_one : Fields → List ℕ → Option (List ℕ)
after_one (Operate op ra rb rc) rs = effect_on (operation_effect op (register_of rs ra) (operand_of rs rb)) rc rs
after_one (Memory Lda ra rb disp) rs = Some (put ra (word_at (register_of rs rb + word_from disp)) rs)
after_one _ rs = None

abbrev pub after : List Fields → List ℕ → Option (List ℕ)
after [] rs = Some rs
after (i ∷ is) rs = option_and_then (after is) (after_one i rs)

put_register : (b : Bool) (r word a : ℕ) (rs : List ℕ) (s : State) → cond b (at s a rs) (at s a (slice_set rs r word)) ≡ at s a (cond b rs (slice_set rs r word))
put_register true r word a rs s = refl
put_register false r word a rs s = refl

pub put_step : (r word a : ℕ) (rs new : List ℕ) (s : State) → Some (put r word rs) ≡ Some new → next_instruction (with_register r word (at s a rs)) ≡ Goes (at s (a + 4) new)
put_step r word a rs new s e =
    let same : put r word rs ≡ new = cc in
    ap next_instruction (put_register (eqb r 31) r word a rs s) ∙ ap (λ l. Goes (at s (a + 4) l)) same

effect_step : (o : OperationEffect) (rc a : ℕ) (rs new : List ℕ) (s : State) → effect_on o rc rs ≡ Some new → operate_step o rc (at s a rs) ≡ Goes (at s (a + 4) new)
effect_step (Gives word) rc a rs new s e = put_step rc word a rs new s e
effect_step Keeps rc a rs new s e = let same : rs ≡ new = cc in ap (λ l. Goes (at s (a + 4) l)) same
effect_step Overflows rc a rs new s e = let clash : ⊥ = cc in absurd clash

operand_step : (p : Program) (op-effect : ℕ → ℕ → OperationEffect) (ra : ℕ) (rb : Operand) (rc a : ℕ) (rs new : List ℕ) (s : State) → effect_on (op-effect (register_of rs ra) (operand_of rs rb)) rc rs ≡ Some new → operate_step (op-effect (register_of rs ra) (operand_of rs rb)) rc (at s a rs) ≡ Goes (at s (a + 4) new)
operand_step p op-effect ra rb rc a rs new s e = effect_step (op-effect (register_of rs ra) (operand_of rs rb)) rc a rs new s e

one_step : (p : Program) (i : Fields) (a : ℕ) (rs new : List ℕ) (s : State) → after_one i rs ≡ Some new → insn_step p i (at s a rs) ≡ Goes (at s (a + 4) new)
one_step p (Operate op ra (Reg rb) rc) a rs new s e = effect_step (operation_effect op (register_of rs ra) (register_of rs rb)) rc a rs new s e
one_step p (Operate op ra (Literal n) rc) a rs new s e = effect_step (operation_effect op (register_of rs ra) n) rc a rs new s e
one_step p (Memory Lda ra rb disp) a rs new s e = put_step ra (word_at (register_of rs rb + word_from disp)) a rs new s e
one_step p _ a rs new s e = let clash : ⊥ = cc in absurd clash

straight_from : (p : Program) (i : Fields) (is : List Fields) (a : ℕ) (rs new : List ℕ) (s : State) → ((mid : List ℕ) → after is mid ≡ Some new → exec p (length is) (at s (a + 4) mid) ≡ Goes (at s (a + 4 + 4 * length is) new)) → instruction_at p a ≡ Some i → (o : Option (List ℕ)) → after_one i rs ≡ o → option_and_then (after is) o ≡ Some new → exec p (suc (length is)) (at s a rs) ≡ Goes (at s (a + 4 + 4 * length is) new)
straight_from p i is a rs new s rest h None one e = let clash : ⊥ = cc in absurd clash
straight_from p i is a rs new s rest h (Some mid) one e = one_done p (length is) i (at s a rs) (at s (a + 4) mid) h (one_step p i a rs mid s one) ∙ rest mid e

pub straight : (p : Program) (is : List Fields) (a : ℕ) (rs new : List ℕ) (s : State) → CodeStandsAt p a is → after is rs ≡ Some new → exec p (length is) (at s a rs) ≡ Goes (at s (a + 4 * length is) new)
unfolding exec
straight p [] a rs new s h e =
    let none : a ≡ a + 4 * 0 = omega arith in
    let same : rs ≡ new = cc in
    ap (λ n. Goes (at s n rs)) none ∙ ap (λ l. Goes (at s (a + 4 * 0) l)) same
straight p (i ∷ is) a rs new s h e =
    let further : a + 4 + 4 * length is ≡ a + 4 * suc (length is) = omega arith in
    straight_from p i is a rs new s (λ mid f. straight p is (a + 4) mid new s h.1 f) h.0 (after_one i rs) refl e ∙ ap (λ n. Goes (at s n new)) further

pub straight_reaches : (p : Program) (is : List Fields) (a : ℕ) (rs new : List ℕ) (s : State) → CodeStandsAt p a is → after is rs ≡ Some new → Reaches p (length is) (at s a rs) (at s (a + 4 * length is) new)
straight_reaches p is a rs new s h e = record { steps = length is; soon = omega arith; run = straight p is a rs new s h e }

-- ---- branches

chosen : State → State → ℕ → ℕ → Bool → Bool → MachineNext
chosen linked s far near l t = Goes (record (cond l linked s) { pc = cond t far near })

pub taken_branch : (p : Program) (op : BranchOp) (ra a target : ℕ) (disp : ℤ) (rs : List ℕ) (s : State) → instruction_at p a ≡ Some (Branch op ra disp) → links op ≡ false → is_branch_taken op (register_of rs ra) ≡ true → branch_target (at s a rs) disp ≡ target → Reaches p 1 (at s a rs) (at s target rs)
unfolding chosen
taken_branch p op ra a target disp rs s h l t e =
    let far : ℕ = branch_target (at s a rs) disp in
    let linked : State = with_register ra (a + 4) (at s a rs) in
    one_reaches p (Branch op ra disp) (at s a rs) (at s target rs) h
    (ap (λ b. chosen linked (at s a rs) far (a + 4) b (is_branch_taken op (register_of rs ra))) l
    ∙ ap (chosen linked (at s a rs) far (a + 4) false) t
    ∙ ap (λ n. Goes (at s n rs)) e)

pub passed_branch : (p : Program) (op : BranchOp) (ra a : ℕ) (disp : ℤ) (rs : List ℕ) (s : State) → instruction_at p a ≡ Some (Branch op ra disp) → links op ≡ false → is_branch_taken op (register_of rs ra) ≡ false → Reaches p 1 (at s a rs) (at s (a + 4) rs)
unfolding chosen
passed_branch p op ra a disp rs s h l t =
    let far : ℕ = branch_target (at s a rs) disp in
    let linked : State = with_register ra (a + 4) (at s a rs) in
    one_reaches p (Branch op ra disp) (at s a rs) (at s (a + 4) rs) h
    (ap (λ b. chosen linked (at s a rs) far (a + 4) b (is_branch_taken op (register_of rs ra))) l
    ∙ ap (chosen linked (at s a rs) far (a + 4) false) t)
