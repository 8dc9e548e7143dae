-- What a run of a machine says of the outcome.
use Rattle.std.proofs.Common.{◌≡◌, ℕ, refl}
use Rattle.alpha_run.specs.declared.ending.Ending.{Ending}
use Rattle.alpha_run.specs.declared.ending.Ending.TheVariants as ending
use Rattle.alpha_run.specs.Run as run
use Rattle.call_outcomes.specs.declared.outcome.Outcome.TheVariants.{FileFault}
use Rattle.call_images.specs.RunImage.{outcome_of_ending}
use Rattle.call_outcomes.specs.Output.{input_faults_after, output_faults_after}

pub no_file : (b : ℕ) (e : Ending) → outcome_of_ending b e ≡ FileFault → ⊥
no_file b (ending.Done status) h = cc
no_file b (ending.Trap code) h = cc
no_file b (ending.Stuck pc) h = cc
no_file b ending.Budget h = cc
no_file b ending.InputFault h = cc
no_file b ending.WriteFault h = cc

-- the counts of faults by the outcome are those by the ending
pub input_count : (b : ℕ) (e : Ending) (n : ℕ) → run.input_faults_after e n ≡ input_faults_after (outcome_of_ending b e) n
input_count b (ending.Done status) n = refl
input_count b (ending.Trap code) n = refl
input_count b (ending.Stuck pc) n = refl
input_count b ending.Budget n = refl
input_count b ending.InputFault n = refl
input_count b ending.WriteFault n = refl

pub output_count : (b : ℕ) (e : Ending) (n : ℕ) → run.output_faults_after e n ≡ output_faults_after (outcome_of_ending b e) n
output_count b (ending.Done status) n = refl
output_count b (ending.Trap code) n = refl
output_count b (ending.Stuck pc) n = refl
output_count b ending.Budget n = refl
output_count b ending.InputFault n = refl
output_count b ending.WriteFault n = refl
