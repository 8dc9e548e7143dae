-- What `vm` answers, and what it does to the input and the output.
use Rattle.std.specs.Prelude.{◌≡◌, ℕ, List, Option}
use Rattle.suifvm_ir.specs.declared.program.VmProgram.{VmProgram}
use Rattle.suifvm_run.specs.declared.ending.VmEnding.{VmEnding}
use Rattle.suifvm_run.specs.declared.ending.VmEnding.TheVariants as ending
use Rattle.suifvm_run.specs.Run.{VmBehavesOn}
use Rattle.bk_io.specs.Outside.{Traffic, OnInput}
use Rattle.call_outcomes.specs.declared.outcome.Outcome.{Outcome}
use Rattle.call_outcomes.specs.declared.outcome.Outcome.TheVariants.{Ran, Trapped, Stuck, Budget, InputFault, WriteFault, NoMemory}
use Rattle.call_outcomes.specs.FromFile.{Does}
use Rattle.call_words.specs.declared.compile_options.Allocator.{Allocator}
use Rattle.compile_calls.specs.Built.{HasBuilt}
use Rattle.compile_calls.specs.Compile.{RefusesText}

-- the outcome of a run's ending, by how many turns it may take
abbrev pub outcome_of_ending : (turns : ℕ) → VmEnding → Outcome
outcome_of_ending turns (ending.Ended status) = Ran status
outcome_of_ending turns (ending.Trapped code) = Trapped code
outcome_of_ending turns (ending.Undefined pc) = Stuck pc
outcome_of_ending turns (ending.Budget n) = Budget turns
outcome_of_ending turns ending.InputFault = InputFault
outcome_of_ending turns ending.WriteFault = WriteFault
outcome_of_ending turns ending.NoMemory = NoMemory

-- the run of a program within so many turns, on the input that was left where it is told, and else on some input,
-- whatever the rooms are
abbrev pub RunsBy : (turns : ℕ) → VmProgram → VmEnding → Traffic → Traffic → Type 0
RunsBy turns program e before after = OnInput before.left after.left (VmBehavesOn program turns e before after)

-- what is answered for a program: how its run ends, or stops
abbrev pub RunsProgram : (turns : ℕ) → VmProgram → Outcome → Traffic → Traffic → Type 0
RunsProgram turns program answer before after =
    (e : VmEnding) × (answer ≡ outcome_of_ending turns e) × RunsBy turns program e before after

-- What `vm` answers for the text of a file, where it is told: the code over virtual registers that is made of the
-- text is run, or there is none.
abbrev pub RunsText : Allocator → (turns : ℕ) → Option (List ℕ) → Outcome → Traffic → Traffic → Type 0
RunsText allocator turns text = Does (RefusesText text) (HasBuilt text allocator) (λ b. RunsProgram turns b.vm)
