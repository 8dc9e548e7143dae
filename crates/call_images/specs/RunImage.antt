-- What is answered where an image is run, and what that did to the input and the output.
use Rattle.std.specs.Prelude.{◌≡◌, ℕ, ◌⊎◌, List, Option, Some, IfSome}
use Rattle.bk_memory.specs.Shortage.{MemoryIsShort}
use Rattle.alpha_isa.specs.Program.{Program}
use Rattle.alpha_isa.specs.ImageFormat.{IsImage}
use Rattle.alpha_run.specs.declared.ending.Ending.{Ending}
use Rattle.alpha_run.specs.declared.ending.Ending.TheVariants as ending
use Rattle.alpha_run.specs.Run.{MachineBehaves}
use Rattle.bk_io.specs.Outside.{Traffic, OnInput}
use Rattle.alpha_image.specs.ImageFault.{image_fault}
use Rattle.call_outcomes.specs.declared.outcome.Outcome.{Outcome}
use Rattle.call_outcomes.specs.declared.outcome.Outcome.TheVariants.{Ran, Trapped, Stuck, Budget, InputFault, WriteFault, BadImage, NoMemory}
use Rattle.call_outcomes.specs.FromFile.{Does}
use Rattle.call_words.specs.declared.compile_options.MachineLimits.{MachineLimits}

-- the outcome of a run's ending, by how many steps it may take
abbrev pub outcome_of_ending : (budget : ℕ) → Ending → Outcome
outcome_of_ending budget (ending.Done status) = Ran status
outcome_of_ending budget (ending.Trap code) = Trapped code
outcome_of_ending budget (ending.Stuck pc) = Stuck pc
outcome_of_ending budget ending.Budget = Budget budget
outcome_of_ending budget ending.InputFault = InputFault
outcome_of_ending budget ending.WriteFault = WriteFault

-- the run of an image on its stack and within its steps, on an input, of which this rest is left
abbrev pub RunsImageOn : MachineLimits → Program → Ending → Traffic → Traffic → (input rest : List ℕ) → Type 0
RunsImageOn limits p e before after input rest = MachineBehaves p limits.stack input rest limits.budget e before after

-- there is such an input: the one that was left, where it is told
abbrev pub ImageRunsBy : MachineLimits → Program → Ending → Traffic → Traffic → Type 0
ImageRunsBy limits p e before after = OnInput before.left after.left (RunsImageOn limits p e before after)

-- what is answered for an image: how its run ends, or want of memory, before anything is read or put
abbrev pub RunsImage : MachineLimits → Program → Outcome → Traffic → Traffic → Type 0
RunsImage limits p answer before after =
    ((answer ≡ NoMemory) × (after ≡ before) × MemoryIsShort)
    ⊎ ((e : Ending) × (answer ≡ outcome_of_ending limits.budget e) × ImageRunsBy limits p e before after)

-- why bytes are no image, where they are told
abbrev pub RefusesBytes : Option (List ℕ) → Outcome → Type 0
RefusesBytes bytes (BadImage at) = IfSome bytes (λ b. image_fault b ≡ Some at)
RefusesBytes bytes _ = ⊥

-- the image of the bytes, where they are told
abbrev pub HoldsImage : Option (List ℕ) → Program → Type 0
HoldsImage bytes p = IfSome bytes (λ b. IsImage b p)

-- What `exec` answers for bytes, where they are told.
abbrev pub Executes : MachineLimits → Option (List ℕ) → Outcome → Traffic → Traffic → Type 0
Executes limits bytes = Does (RefusesBytes bytes) (HoldsImage bytes) (RunsImage limits)
