-- What a turn of the processor says of a step.
use Rattle.std.specs.Prelude.{◌≡◌, ℕ, Bool, true, false, ◌&&◌, ◌==◌, [], ◌∷◌, ◌++◌, IsTrue, IsFalse}
use Rattle.alpha_isa.specs.Program.{Program}
use Rattle.alpha_isa.specs.State.{State, register, with_register}
use Rattle.alpha_isa.specs.Step.{MachineNext, Over, next_instruction, pal_step, input_word, input_rest}
use Rattle.alpha_isa.specs.Step as step
use Rattle.alpha_run.specs.Ending.{halt_is}
use Rattle.alpha_run.specs.Services.{asks_service}
use Rattle.alpha_run.specs.declared.processor.StepResult.{StepResult}
use Rattle.alpha_run.specs.declared.processor.StepResult.TheVariants as turn

-- the state with a byte put, and with a byte taken
abbrev pub with_put : ℕ → State → State
with_put byte s = record s { output = s.output ++ byte ∷ [] }

abbrev pub with_taken : State → State
with_taken s = with_register 0 (input_word s.input) (record s { input = input_rest s.input })

-- a call of this function in this state asks for a byte of the input
abbrev pub takes : ℕ → State → Bool
takes function s = (function == 0x83) && (register s 0 == 3)

-- what a call of privileged code does
abbrev pub Calls : ℕ → State → StepResult → Type 0
Calls function s turn.Goes = ⊥
Calls function s (turn.Over h) = (pal_step function s ≡ Over (halt_is h) s) × IsFalse (takes function s)
Calls function s (turn.Puts byte) =
    (pal_step function s ≡ next_instruction (with_put byte s)) × (function ≡ 0x83) × (register s 0 ≡ 2)
Calls function s turn.Takes =
    (pal_step function s ≡ next_instruction (with_taken s)) × (function ≡ 0x83) × (register s 0 ≡ 3)

-- what a step does from s, where t is the state in which the processor then stands. A step that waits for
-- the outside is not done yet
abbrev pub Steps : Program → StepResult → State → State → Type 0
Steps p turn.Goes s t = (step.step p s ≡ step.Goes t) × IsFalse (asks_service p 3 s)
Steps p (turn.Over h) s t = (step.step p s ≡ Over (halt_is h) t) × IsFalse (asks_service p 3 s)
Steps p (turn.Puts byte) s t =
    (step.step p s ≡ next_instruction (with_put byte s)) × IsFalse (asks_service p 3 s) × IsTrue (asks_service p 2 s)
    × (t ≡ s)
Steps p turn.Takes s t = (step.step p s ≡ next_instruction (with_taken s)) × IsTrue (asks_service p 3 s) × (t ≡ s)

-- a turn that waits for the outside
abbrev pub waits : StepResult → Bool
waits (turn.Puts byte) = true
waits turn.Takes = true
waits _ = false
