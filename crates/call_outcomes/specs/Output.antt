-- What a sink took in a call, and the counts of faults after it.
use Rattle.std.specs.Prelude.{◌≡◌, ℕ, ◌≤◌, ◌⊎◌, List, length, take, Option, Result, Ok, Err}
use Rattle.bk_io.specs.Outside.{next_count, taken_with}
use Rattle.call_outcomes.specs.declared.outcome.Outcome.{Outcome}
use Rattle.call_outcomes.specs.declared.outcome.Outcome.TheVariants.{FileFault, InputFault, WriteFault}

-- a front of the bytes was taken
abbrev pub TookFront : List ℕ → Option (List ℕ) → Option (List ℕ) → Type 0
TookFront bytes old new = (n : ℕ) × (n ≤ length bytes) × (new ≡ taken_with (take n bytes) old)

-- the bytes were taken, or a front of them and one put failed
abbrev pub TookUnlessFault : List ℕ → Option (List ℕ) → Option (List ℕ) → ℕ → ℕ → Type 0
TookUnlessFault bytes old new faults_old faults_new =
    ((new ≡ taken_with bytes old) × (faults_new ≡ faults_old)) ⊎
    (TookFront bytes old new × (faults_new ≡ next_count faults_old))

-- the counts of faults after a call with this outcome: one more where the outcome tells a fault, and else as before
abbrev pub file_faults_after : Outcome → ℕ → ℕ
file_faults_after FileFault faults = next_count faults
file_faults_after _ faults = faults

abbrev pub input_faults_after : Outcome → ℕ → ℕ
input_faults_after InputFault faults = next_count faults
input_faults_after _ faults = faults

abbrev pub output_faults_after : Outcome → ℕ → ℕ
output_faults_after WriteFault faults = next_count faults
output_faults_after _ faults = faults

-- the count of faults of the files after a call that may answer an outcome in place of a value
abbrev pub file_faults_unless : {A : Type 0} → Result A Outcome → ℕ → ℕ
file_faults_unless (Ok a) faults = faults
file_faults_unless (Err outcome) faults = file_faults_after outcome faults

-- What is answered where bytes are put, and what the output took: all of them, or a front of them before a put that
-- failed.
abbrev pub PutsBytes : Outcome → List ℕ → Outcome → Option (List ℕ) → Option (List ℕ) → Type 0
PutsBytes done bytes answer old new =
    ((answer ≡ done) × (new ≡ taken_with bytes old)) ⊎ ((answer ≡ WriteFault) × TookFront bytes old new)
