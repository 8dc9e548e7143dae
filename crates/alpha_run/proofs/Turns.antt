-- A turn of the processor is a step of the definition.
use Rattle.std.proofs.Common.{◌≡◌, ℕ, ℤ, List, [], ◌∷◌, drop, true, false, ◌&&◌, eqb, Option, Some, None, refl, sym, ap, ◌∙◌}
use Rattle.std.specs.Prelude.{slice_get}
use Rattle.std.specs.Int.{w16, w32, cast_signed, cast_unsigned}
use Rattle.std.specs.Int.RustNames.{FitsSigned}
use Rattle.std.proofs.lemmas.Int.{to_z-of_z}
use Rattle.std.proofs.lemmas.Bool.{eq-eqb, and_from, and_left, and_right}
use Rattle.alpha_isa.specs.declared.insn.Fields.{Fields}
use Rattle.alpha_isa.specs.declared.insn.Fields.TheVariants as fields
use Rattle.alpha_isa.specs.declared.insn.MemoryOp.{MemoryOp}
use Rattle.alpha_isa.specs.declared.insn.BranchOp.{BranchOp}
use Rattle.alpha_isa.specs.Program.{Program, instruction_at}
use Rattle.alpha_isa.specs.State.{State, register, with_register}
use Rattle.alpha_isa.specs.Step.{MachineNext, step, fetched_step, insn_step, memory_step, branch_step, stuck_at, next_instruction}
use Rattle.alpha_run.specs.declared.processor.StepResult.{StepResult}
use Rattle.alpha_run.specs.declared.processor.StepResult.TheVariants as turn
use Rattle.alpha_run.specs.declared.processor.Processor.{Processor}
use Rattle.alpha_run.specs.model.ProcessorState.{processor_state}
use Rattle.alpha_run.specs.model.TakenWord.{taken_word}
use Rattle.alpha_run.specs.model.Turns.{with_taken, Calls, Steps, takes}
use Rattle.alpha_run.specs.Services.{asks_service, is_service}

-- no step but a service takes a byte
asks_none : (p : Program) (s : State) (number : ℕ) → is_service (instruction_at p s.pc) ≡ false → asks_service p number s ≡ false
asks_none p s number e = and_left (is_service (instruction_at p s.pc)) (eqb (register s 0) number) e

asks_only : (p : Program) (s : State) (i : Fields) (function number : ℕ) → Some i ≡ instruction_at p s.pc → i ≡ fields.Pal function → asks_service p number s ≡ (eqb function 0x83 && eqb (register s 0) number)
asks_only p s i function number e same =
    ap (λ o. is_service o && eqb (register s 0) number) (sym e ∙ ap (λ k. Some k) same)

-- a step by what was fetched
pub none_goes : (p : Program) (s : State) → ◌≡◌ {A = Option Fields} None (instruction_at p s.pc) → (step p s ≡ stuck_at s) × (asks_service p 3 s ≡ false)
unfolding step
none_goes p s e = (ap (λ o. fetched_step p o s) (sym e), asks_none p s 3 (ap is_service (sym e)))

insn_goes : (p : Program) (s : State) (i j : Fields) (n : MachineNext) → Some i ≡ instruction_at p s.pc → i ≡ j → n ≡ insn_step p j s → step p s ≡ n
unfolding step
insn_goes p s i j n e same is = ap (λ o. fetched_step p o s) (sym e) ∙ ap (λ k. insn_step p k s) same ∙ sym is

-- an instruction that calls no service
pub plain_goes : (p : Program) (s : State) (i j : Fields) (n : MachineNext) → Some i ≡ instruction_at p s.pc → i ≡ j → is_service (Some j) ≡ false → n ≡ insn_step p j s → (step p s ≡ n) × (asks_service p 3 s ≡ false)
plain_goes p s i j n e same other is = (insn_goes p s i j n e same is, asks_none p s 3 (ap is_service (sym e ∙ ap (λ k. Some k) same) ∙ other))

pub memory_goes : (p : Program) (s : State) (i : Fields) (op : MemoryOp) (ra rb : ℕ) (disp : ℤ) (n : MachineNext) → Some i ≡ instruction_at p s.pc → i ≡ fields.Memory op ra rb disp → FitsSigned w16 disp → n ≡ memory_step p op ra rb (cast_signed w16 (cast_unsigned w16 disp)) s → (step p s ≡ n) × (asks_service p 3 s ≡ false)
memory_goes p s i op ra rb disp n e same fits is = plain_goes p s i (fields.Memory op ra rb disp) n e same refl (is ∙ ap (λ z. memory_step p op ra rb z s) (to_z-of_z w16 disp fits))

pub branch_goes : (p : Program) (s : State) (i : Fields) (op : BranchOp) (ra : ℕ) (disp : ℤ) (n : MachineNext) → Some i ≡ instruction_at p s.pc → i ≡ fields.Branch op ra disp → FitsSigned w32 disp → n ≡ branch_step op ra (cast_signed w32 (cast_unsigned w32 disp)) s → (step p s ≡ n) × (asks_service p 3 s ≡ false)
branch_goes p s i op ra disp n e same fits is = plain_goes p s i (fields.Branch op ra disp) n e same refl (is ∙ ap (λ z. branch_step op ra z s) (to_z-of_z w32 disp fits))

-- a service is asked for
service_asks : (p : Program) (s : State) (i : Fields) (function number : ℕ) → Some i ≡ instruction_at p s.pc → i ≡ fields.Pal function → function ≡ 0x83 → register s 0 ≡ number → asks_service p number s ≡ true
service_asks p s i function number e same f r = asks_only p s i function number e same ∙ and_from (eqb function 0x83) (eqb (register s 0) number) (eq-eqb function 0x83 f) (eq-eqb (register s 0) number r)

puts_only : (function : ℕ) (s : State) → register s 0 ≡ 2 → takes function s ≡ false
puts_only function s r = and_right (eqb function 0x83) (eqb (register s 0) 3) (rw r refl)

pub call_steps : (p : Program) (s : State) (i : Fields) (function : ℕ) (t : StepResult) → Some i ≡ instruction_at p s.pc → i ≡ fields.Pal function → Calls function s t → Steps p t s s
call_steps p s i function turn.Goes e same h = absurd h
call_steps p s i function (turn.Over halt) e same h = (insn_goes p s i (fields.Pal function) _ e same (sym h.0), asks_only p s i function 3 e same ∙ h.1)
call_steps p s i function (turn.Puts byte) e same h = (insn_goes p s i (fields.Pal function) _ e same (sym h.0), asks_only p s i function 3 e same ∙ puts_only function s h.2, service_asks p s i function 2 e same h.1 h.2, refl)
call_steps p s i function turn.Takes e same h = (insn_goes p s i (fields.Pal function) _ e same (sym h.0), service_asks p s i function 3 e same h.1 h.2, refl)

-- the byte that was taken is the first of the input
pub taken_goes : (m : Processor) (x y : List ℕ) (byte : Option ℕ) (word : ℕ) → word ≡ taken_word byte → byte ≡ slice_get x 0 → next_instruction (with_register 0 word (processor_state m (drop 1 x) y)) ≡ next_instruction (with_taken (processor_state m x y))
taken_goes m [] y byte word w b = rw (w, b) refl
taken_goes m (first ∷ rest) y byte word w b = rw (w, b) refl
