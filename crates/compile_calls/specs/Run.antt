-- What `run` answers, and what it does to the input and the output.
use Rattle.std.specs.Prelude.{◌≡◌, ◌≢◌, ℕ, ◌+◌, ◌*◌, ◌≤◌, List, Option, Some}
use Rattle.bk_io.specs.Outside.{Traffic, OnInput}
use Rattle.mem_model.specs.Bytes.{AreBytes}
use Rattle.c_mean.specs.Behaviour.{Good}
use Rattle.c_tree.specs.declared.declarations.TranslationUnit.{TranslationUnit}
use Rattle.c_typed_tree.specs.declared.units.TypedUnit.{TypedUnit}
use Rattle.c_typed_tree.specs.Weight.{unit_weight}
use Rattle.c_semantics.specs.Behaves.{meaning, behave_c, IsEnded}
use Rattle.call_outcomes.specs.declared.outcome.Outcome.{Outcome}
use Rattle.call_outcomes.specs.declared.outcome.Outcome.TheVariants.{Budget}
use Rattle.call_outcomes.specs.FromFile.{Does}
use Rattle.call_words.specs.declared.compile_options.Allocator.{Allocator}
use Rattle.call_words.specs.declared.compile_options.MachineLimits.{MachineLimits}
use Rattle.call_images.specs.RunImage.{RunsImage}
use Rattle.compiler.specs.Units.{IsUnitWithin}
use Rattle.compile_calls.specs.Built.{HasBuilt}
use Rattle.compile_calls.specs.Compile.{HasCorrectImage, RefusesText}

-- What `run` answers for the text of a file, where it is told: an image that is right for the text is run, or there is
-- none.
abbrev pub Runs : MachineLimits → Option (List ℕ) → Outcome → Traffic → Traffic → Type 0
Runs limits text = Does (RefusesText text) (HasCorrectImage text) (RunsImage limits)

-- the steps that are enough for a unit of a weight that ends within so many turns
abbrev pub enough_steps : (weight turns : ℕ) → ℕ
enough_steps weight turns = 1228800 * weight * (turns + 1)

-- It is not answered on an input that the steps are used up where they are enough: for a text that is told and has a
-- unit that promises something on this input with this stack, and on it ends or traps within some turns
abbrev pub HasEnoughSteps : MachineLimits → Option (List ℕ) → Outcome → (input rest : List ℕ) → Type 0
HasEnoughSteps limits told answer input rest =
    (text : List ℕ) (tree : TranslationUnit) (unit : TypedUnit) (turns : ℕ) → told ≡ Some text →
    IsUnitWithin text tree unit → AreBytes input → Good (meaning unit) input limits.stack →
    IsEnded (behave_c unit input turns) → enough_steps (unit_weight unit) turns ≤ limits.budget →
    answer ≢ Budget limits.budget

-- Where the steps are enough, `run` does not answer that they are used up: on the input that was left, where it is told,
-- and else on some input.
abbrev pub EndsWithEnoughSteps : MachineLimits → Option (List ℕ) → Outcome → Traffic → Traffic → Type 0
EndsWithEnoughSteps limits told answer before after =
    OnInput before.left after.left (HasEnoughSteps limits told answer)

-- The image is that of what is made of the text by an allocator, pass by pass.
abbrev pub RunsMade : Allocator → MachineLimits → Option (List ℕ) → Outcome → Traffic → Traffic → Type 0
RunsMade allocator limits text = Does (RefusesText text) (HasBuilt text allocator) (λ b. RunsImage limits b.image)
