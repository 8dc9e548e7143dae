-- What the ending of a run says of the outcome and of the counts of faults.
use Rattle.std.proofs.Common.{◌≡◌, ℕ, refl}
use Rattle.suifvm_run.specs.declared.ending.VmEnding.{VmEnding}
use Rattle.suifvm_run.specs.declared.ending.VmEnding.TheVariants as ending
use Rattle.suifvm_run.specs.Run as run
use Rattle.call_outcomes.specs.declared.outcome.Outcome.TheVariants.{FileFault}
use Rattle.call_outcomes.specs.Output.{input_faults_after, output_faults_after}
use Rattle.compile_calls.specs.Vm.{outcome_of_ending}

pub no_file : (turns : ℕ) (e : VmEnding) → outcome_of_ending turns e ≡ FileFault → ⊥
no_file turns (ending.Ended status) h = cc
no_file turns (ending.Trapped code) h = cc
no_file turns (ending.Undefined pc) h = cc
no_file turns (ending.Budget left) h = cc
no_file turns ending.InputFault h = cc
no_file turns ending.WriteFault h = cc
no_file turns ending.NoMemory h = cc

-- the counts of faults by the outcome are those by the ending
pub input_count : (turns : ℕ) (e : VmEnding) (n : ℕ) → run.input_faults_after e n ≡ input_faults_after (outcome_of_ending turns e) n
input_count turns (ending.Ended status) n = refl
input_count turns (ending.Trapped code) n = refl
input_count turns (ending.Undefined pc) n = refl
input_count turns (ending.Budget left) n = refl
input_count turns ending.InputFault n = refl
input_count turns ending.WriteFault n = refl
input_count turns ending.NoMemory n = refl

pub output_count : (turns : ℕ) (e : VmEnding) (n : ℕ) → run.output_faults_after e n ≡ output_faults_after (outcome_of_ending turns e) n
output_count turns (ending.Ended status) n = refl
output_count turns (ending.Trapped code) n = refl
output_count turns (ending.Undefined pc) n = refl
output_count turns (ending.Budget left) n = refl
output_count turns ending.InputFault n = refl
output_count turns ending.WriteFault n = refl
output_count turns ending.NoMemory n = refl
