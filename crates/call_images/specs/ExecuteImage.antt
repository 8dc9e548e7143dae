-- What `exec` answers for bytes that hold an image: how the image behaves on the stack and within the steps.
use Rattle.std.specs.Prelude.{◌≡◌, ℕ, ◌<◌, List, Option}
use Rattle.bk_memory.specs.Shortage.{MemoryIsShort}
use Rattle.bk_io.specs.Outside.{taken_with, Traffic}
use Rattle.alpha_isa.specs.Program.{Program}
use Rattle.alpha_isa.specs.Behave.{Behaviour, behave_a, output_of}
use Rattle.alpha_isa.specs.Behave as behave
use Rattle.call_outcomes.specs.declared.outcome.Outcome.{Outcome}
use Rattle.call_outcomes.specs.declared.outcome.Outcome.TheVariants.{Ran, Trapped, Stuck, Budget, FileFault, InputFault, WriteFault, NoMemory}
use Rattle.call_words.specs.declared.compile_options.MachineLimits.{MachineLimits}

-- the outcome of a behaviour within so many steps
abbrev pub outcome_of_behaviour : (budget : ℕ) → Behaviour → Outcome
outcome_of_behaviour budget (behave.Done output status) = Ran status
outcome_of_behaviour budget (behave.Trap output code) = Trapped code
outcome_of_behaviour budget (behave.Stuck output pc) = Stuck pc
outcome_of_behaviour budget (behave.More output) = Budget budget

-- what an image does on an input, on its stack and within its steps
abbrev pub behaviour_within : MachineLimits → Program → (input : List ℕ) → Behaviour
behaviour_within limits p input = behave_a p limits.stack input limits.budget

-- the output took all that an image puts in fewer steps, behind which it goes on
pub record TookOfFewerSteps (limits : MachineLimits) (p : Program) (input : List ℕ) (before after : Option (List ℕ)) :
    Type 0 where
  pub steps : ℕ
  pub put : List ℕ
  pub fewer : steps < limits.budget
  pub goes_on : behave_a p limits.stack input steps ≡ behave.More put
  pub taken : after ≡ taken_with put before

-- What may be answered for an image on an input: the outcome of its behaviour, where the output took all that it puts;
-- or the input or the output failed after fewer steps; or the file is not read, or memory is short, and nothing is
-- done.
pub data ExecutesImage (limits : MachineLimits) (p : Program) (input : List ℕ) (before after : Traffic)
    (answer : Outcome) : Type 0 where
  as_behaved : answer ≡ outcome_of_behaviour limits.budget (behaviour_within limits p input) →
      after.taken ≡ taken_with (output_of (behaviour_within limits p input)) before.taken →
      ExecutesImage limits p input before after answer
  input_fault : answer ≡ InputFault → TookOfFewerSteps limits p input before.taken after.taken →
      ExecutesImage limits p input before after answer
  write_fault : answer ≡ WriteFault → TookOfFewerSteps limits p input before.taken after.taken →
      ExecutesImage limits p input before after answer
  file_fault : answer ≡ FileFault → after ≡ before → ExecutesImage limits p input before after answer
  no_memory : answer ≡ NoMemory → after ≡ before → MemoryIsShort → ExecutesImage limits p input before after answer
