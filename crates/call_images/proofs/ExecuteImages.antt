-- Bytes that hold an image are executed as the image behaves.
use Rattle.std.proofs.Common.{◌≡◌, ◌≢◌, ℕ, List, inl, inr, Some, None, refl, sym, ap, ◌∙◌, subst}
use Rattle.bk_io.specs.Outside.{taken_with, Traffic, OnInput}
use Rattle.bk_io.proofs.Inputs.{on_nothing, on_same}
use Rattle.alpha_isa.specs.Program.{Program}
use Rattle.alpha_isa.specs.ImageFormat.{IsImage}
use Rattle.alpha_isa.specs.Behave.{Behaviour, output_of}
use Rattle.alpha_isa.specs.Behave as behave
use Rattle.alpha_image.specs.ImageFault.{image_fault}
use Rattle.alpha_image.proofs.ImageLaws.{no_fault, one}
use Rattle.alpha_run.specs.declared.ending.Ending.{Ending}
use Rattle.alpha_run.specs.declared.ending.Ending.TheVariants as ending
use Rattle.alpha_run.specs.Run.{MachineBehaves}
use Rattle.call_outcomes.specs.declared.outcome.Outcome.{Outcome}
use Rattle.call_outcomes.specs.declared.outcome.Outcome.TheVariants.{FileFault, BadImage, NoMemory}
use Rattle.call_outcomes.specs.FromFile.{IsCause}
use Rattle.call_words.specs.declared.compile_options.MachineLimits.{MachineLimits}
use Rattle.call_images.specs.RunImage.{outcome_of_ending, RunsImageOn, RunsImage, RefusesBytes, Executes}
use Rattle.call_images.specs.ExecuteImage.{outcome_of_behaviour, behaviour_within, ExecutesImage}
use Rattle.call_images.specs.ExecuteImage.ExecutesImage.{as_behaved, input_fault, write_fault, file_fault, no_memory}
use Rattle.call_images.proofs.MigrateImages.{no_refusal}

by_cause : (limits : MachineLimits) (bytes input : List ℕ) (p : Program) (answer : Outcome) (before after : Traffic) → image_fault bytes ≡ None → IsCause (RefusesBytes (Some bytes)) answer → after ≡ before → ExecutesImage limits p input before after answer
by_cause limits bytes input p FileFault before after none c same = file_fault refl same
by_cause limits bytes input p NoMemory before after none (inl short) same = no_memory refl same short
by_cause limits bytes input p NoMemory before after none (inr other) same = absurd other
by_cause limits bytes input p (BadImage at) before after none c same = absurd (no_refusal bytes at none c)
by_cause limits bytes input p _ before after none c same = absurd c

behaved : (limits : MachineLimits) (input : List ℕ) (p : Program) (b : Behaviour) (before after : Traffic) → behaviour_within limits p input ≡ b → after.taken ≡ taken_with (output_of b) before.taken → ExecutesImage limits p input before after (outcome_of_behaviour limits.budget b)
behaved limits input p b before after is taken =
    as_behaved (ap (outcome_of_behaviour limits.budget) (sym is)) (taken ∙ ap (λ x. taken_with (output_of x) before.taken) (sym is))

-- how a run ends is how the image behaves
ended : (limits : MachineLimits) (input rest : List ℕ) (p : Program) (e : Ending) (before after : Traffic) → MachineBehaves p limits.stack input rest limits.budget e before after → ExecutesImage limits p input before after (outcome_of_ending limits.budget e)
ended limits input rest p (ending.Done status) before after m = behaved limits input p (behave.Done m.place.output status) before after m.gives m.taken
ended limits input rest p (ending.Trap code) before after m = behaved limits input p (behave.Trap m.place.output code) before after m.gives m.taken
ended limits input rest p (ending.Stuck pc) before after m = behaved limits input p (behave.Stuck m.place.output pc) before after m.gives m.taken
ended limits input rest p ending.Budget before after m = behaved limits input p (behave.More m.place.output) before after m.gives m.taken
ended limits input rest p ending.InputFault before after m = input_fault refl (record { steps = m.gives.0; put = m.place.output; fewer = m.gives.1; goes_on = m.gives.2; taken = m.taken })
ended limits input rest p ending.WriteFault before after m = write_fault refl (record { steps = m.gives.0; put = m.place.output; fewer = m.gives.1; goes_on = m.gives.2; taken = m.taken })

-- what is answered on an input
abbrev AnswersOn : MachineLimits → Program → Outcome → Traffic → Traffic → (input rest : List ℕ) → Type 0
AnswersOn limits p answer before after input rest = ExecutesImage limits p input before after answer

-- where nothing was done it is answered on each input
on_each : (limits : MachineLimits) (p : Program) (answer : Outcome) (before after : Traffic) → after ≡ before → ((input : List ℕ) → ExecutesImage limits p input before after answer) → OnInput before.left after.left (AnswersOn limits p answer before after)
on_each limits p answer before after same answers =
    subst (λ t. OnInput before.left t.left (AnswersOn limits p answer before after)) (sym same)
    (on_nothing before.left (AnswersOn limits p answer before after) (λ rest may. answers rest))

run : (limits : MachineLimits) (p : Program) (answer : Outcome) (before after : Traffic) → RunsImage limits p answer before after → OnInput before.left after.left (AnswersOn limits p answer before after)
run limits p answer before after runs = elim runs [
  | inl none ↦ on_each limits p answer before after none.1 (λ input. no_memory none.0 none.1 none.2)
  | inr e ↦ on_same before.left after.left (RunsImageOn limits p e.0 before after) (AnswersOn limits p answer before after)
      (λ input rest behaves. subst (ExecutesImage limits p input before after) (sym e.1) (ended limits input rest p e.0 before after behaves)) e.2
]

pub executed_image : (bytes : List ℕ) (p : Program) (limits : MachineLimits) (answer : Outcome) (before after : Traffic) → IsImage bytes p → Executes limits (Some bytes) answer before after → OnInput before.left after.left (λ input rest. ExecutesImage limits p input before after answer)
executed_image bytes p limits answer before after is executes = elim executes [
  | inl c ↦ on_each limits p answer before after c.1 (λ input. by_cause limits bytes input p answer before after (no_fault bytes p is) c.0 c.1)
  | inr m ↦ subst (λ q. OnInput before.left after.left (AnswersOn limits q answer before after)) (one bytes m.0 p m.1 is) (run limits m.0 answer before after m.2)
]

-- ---- no image is a bad one

no_bad_image : (budget : ℕ) (e : Ending) (at : ℕ) → outcome_of_ending budget e ≡ BadImage at → ⊥
no_bad_image budget (ending.Done status) at h = cc
no_bad_image budget (ending.Trap code) at h = cc
no_bad_image budget (ending.Stuck pc) at h = cc
no_bad_image budget ending.Budget at h = cc
no_bad_image budget ending.InputFault at h = cc
no_bad_image budget ending.WriteFault at h = cc

memory_apart : (at : ℕ) → NoMemory ≡ BadImage at → ⊥
memory_apart at h = cc

pub accepted_image : (bytes : List ℕ) (p : Program) (limits : MachineLimits) (answer : Outcome) (before after : Traffic) (at : ℕ) → IsImage bytes p → Executes limits (Some bytes) answer before after → answer ≢ BadImage at
accepted_image bytes p limits answer before after at is executes bad = elim executes [
  | inl c ↦ no_refusal bytes at (no_fault bytes p is) (subst (IsCause (RefusesBytes (Some bytes))) bad c.0)
  | inr m ↦ elim m.2 [
    | inl none ↦ memory_apart at (sym none.0 ∙ bad)
    | inr e ↦ no_bad_image limits.budget e.0 at (sym e.1 ∙ bad)
  ]
]
