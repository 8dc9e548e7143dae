-- What the run of an image on an empty input tells by its ending and by what the machine counted.
use Rattle.std.proofs.Common.{◌≡◌, ◌≢◌, ℕ, List, [], length, Option, inr, refl, ap, ap₂, ◌∙◌, subst}
use Rattle.bk_io.specs.Outside.{count_plus, Traffic}
use Rattle.alpha_isa.specs.Program.{Program}
use Rattle.alpha_isa.specs.Behave.{start_state}
use Rattle.alpha_run.specs.declared.ending.Ending.{Ending}
use Rattle.alpha_run.specs.declared.ending.Ending.TheVariants as ending
use Rattle.alpha_run.specs.Snapshot.{Snapshot, first_snapshot, snapshot_state}
use Rattle.alpha_run.specs.Run.{ImageGives, IsRun, steps_in, input_faults_after, output_faults_after}
use Rattle.alpha_run.proofs.Runs.{ran_gives}
use Rattle.call_outcomes.specs.declared.outcome.Outcome.{Outcome}
use Rattle.call_outcomes.specs.declared.outcome.Outcome.TheVariants.{FileFault, InputFault, WriteFault, Usage}
use Rattle.call_words.specs.declared.compile_options.MachineLimits.{MachineLimits}
use Rattle.call_images.specs.RunImage.{outcome_of_ending}
use Rattle.compile_calls.specs.Print.{WritesText}
use Rattle.compile_calls.specs.declared.summary.Summary.{Summary}
use Rattle.compile_calls.specs.Summary.{summary_text}
use Rattle.compile_calls.specs.Generate.{summary_of, TellsEnding, RunsGenerated}

-- a run that ended with a status: its steps and the bytes that it put, as the machine counted them
pub done_counts : (p : Program) (stack n status : ℕ) (rest : List ℕ) (old new : Snapshot) (told after : Traffic) → old ≡ first_snapshot p stack → snapshot_state old [] [] ≡ start_state p stack [] → IsRun p n (ending.Done status) (snapshot_state old [] []) rest old new told after
    → (put : List ℕ) × ImageGives p stack [] n (ending.Done status) put × (new.steps ≡ count_plus (steps_in p n (start_state p stack [])) 0) × (new.written ≡ count_plus (length put) 0)
done_counts p stack n status rest old new told after loaded start r =
    let at : IsRun p n (ending.Done status) (start_state p stack []) rest old new told after = subst (λ s. IsRun p n (ending.Done status) s rest old new told after) start r in
    let steps_before : old.steps ≡ 0 = ap (λ m. m.steps) loaded in
    let written_before : old.written ≡ 0 = ap (λ m. m.written) loaded in (
      at.put,
      ran_gives p stack [] rest n (ending.Done status) old new told after at,
      ap (λ m. m.steps) at.machine ∙ ap₂ (λ k before. count_plus (steps_in p k (start_state p stack [])) before) at.stops.0 steps_before,
      ap (λ m. m.written) at.machine ∙ ap (count_plus (length at.put)) written_before,
    )

-- what a run gave, whatever its ending
pub gave : (p : Program) (stack n : ℕ) (e : Ending) (rest : List ℕ) (old new : Snapshot) (told after : Traffic) → snapshot_state old [] [] ≡ start_state p stack [] → IsRun p n e (snapshot_state old [] []) rest old new told after → (put : List ℕ) × ImageGives p stack [] n e put
gave p stack n e rest old new told after start r =
    let at : IsRun p n e (start_state p stack []) rest old new told after = subst (λ s. IsRun p n e s rest old new told after) start r in
    (at.put, ran_gives p stack [] rest n e old new told after at)

-- an ending that is neither a status nor a fault of the outside is answered
pub tells_other : (limits : MachineLimits) (text : List ℕ) (p : Program) (put : List ℕ) (e : Ending) (answer : Outcome) (old : Option (List ℕ)) → ((status : ℕ) → e ≢ ending.Done status) → 0 ≡ input_faults_after e 0 → 0 ≡ output_faults_after e 0 → answer ≡ outcome_of_ending limits.budget e
    → TellsEnding limits text p put e answer old old
tells_other limits text p put (ending.Done status) answer old other input output is = absurd (other status refl)
tells_other limits text p put (ending.Trap code) answer old other input output is = (is, refl)
tells_other limits text p put (ending.Stuck pc) answer old other input output is = (is, refl)
tells_other limits text p put ending.Budget answer old other input output is = (is, refl)
tells_other limits text p put ending.InputFault answer old other input output is = cc
tells_other limits text p put ending.WriteFault answer old other input output is = cc

-- such an ending is no fault, and nothing that the words ask for
pub no_fault : (b : ℕ) (e : Ending) → 0 ≡ input_faults_after e 0 → 0 ≡ output_faults_after e 0 → (outcome_of_ending b e ≢ FileFault) × (outcome_of_ending b e ≢ InputFault) × (outcome_of_ending b e ≢ WriteFault) × (outcome_of_ending b e ≢ Usage)
no_fault b (ending.Done status) input output = (λ h. cc, λ h. cc, λ h. cc, λ h. cc)
no_fault b (ending.Trap code) input output = (λ h. cc, λ h. cc, λ h. cc, λ h. cc)
no_fault b (ending.Stuck pc) input output = (λ h. cc, λ h. cc, λ h. cc, λ h. cc)
no_fault b ending.Budget input output = (λ h. cc, λ h. cc, λ h. cc, λ h. cc)
no_fault b ending.InputFault input output = cc
no_fault b ending.WriteFault input output = cc

-- ---- summaries

-- the summary of what was counted
pub summary_is : (limits : MachineLimits) (bytes : List ℕ) (p : Program) (put : List ℕ) (text words steps output status : ℕ) → text ≡ length bytes → words ≡ length p.words → steps ≡ count_plus (steps_in p limits.budget (start_state p limits.stack [])) 0 → output ≡ count_plus (length put) 0
    → record { text = text; words = words; steps = steps; output = output; status = status } ≡ summary_of limits bytes p put status
summary_is limits bytes p put text words steps output status text_is words_is steps_is output_is = λ i. record {
  text = text_is i;
  words = words_is i;
  steps = steps_is i;
  output = output_is i;
  status = status;
}

-- a run that ended with a status is told by its summary
pub tells_done : (limits : MachineLimits) (bytes : List ℕ) (p : Program) (e : Ending) (status : ℕ) (rest : List ℕ) (machine new : Snapshot) (told after : Traffic) (answer : Outcome) (old now : Option (List ℕ)) (summary : Summary)
    → machine ≡ first_snapshot p limits.stack → snapshot_state machine [] [] ≡ start_state p limits.stack [] → IsRun p limits.budget e (snapshot_state machine [] []) rest machine new told after → e ≡ ending.Done status
    → ((put : List ℕ) → new.steps ≡ count_plus (steps_in p limits.budget (start_state p limits.stack [])) 0 → new.written ≡ count_plus (length put) 0 → summary ≡ summary_of limits bytes p put status)
    → WritesText (summary_text summary) answer old now
    → RunsGenerated limits bytes p answer old now
tells_done limits bytes p e status rest machine new told after answer old now summary loaded start run is same writes =
    let counts = done_counts p limits.stack limits.budget status rest machine new told after loaded start (subst (λ x. IsRun p limits.budget x (snapshot_state machine [] []) rest machine new told after) is run) in
    inr (ending.Done status, counts.0, counts.1, subst (λ s. WritesText (summary_text s) answer old now) (same counts.0 counts.2 counts.3) writes)

-- and any other run by its ending
pub tells_run : (limits : MachineLimits) (bytes : List ℕ) (p : Program) (e : Ending) (rest : List ℕ) (machine new : Snapshot) (told after : Traffic) (answer : Outcome) (old : Option (List ℕ))
    → snapshot_state machine [] [] ≡ start_state p limits.stack [] → IsRun p limits.budget e (snapshot_state machine [] []) rest machine new told after → ((status : ℕ) → e ≢ ending.Done status) → 0 ≡ input_faults_after e 0 → 0 ≡ output_faults_after e 0 → answer ≡ outcome_of_ending limits.budget e
    → RunsGenerated limits bytes p answer old old
tells_run limits bytes p e rest machine new told after answer old start run other input output is =
    let given = gave p limits.stack limits.budget e rest machine new told after start run in
    inr (e, given.0, given.1, tells_other limits bytes p given.0 e answer old other input output is)
