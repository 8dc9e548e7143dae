-- What `gen` answers, and what it writes.
use Rattle.std.specs.Prelude.{◌≡◌, ℕ, ◌⊎◌, List, [], length, Option, Some}
use Rattle.bk_memory.specs.Shortage.{MemoryIsShort}
use Rattle.bk_io.specs.Outside.{count_plus}
use Rattle.alpha_isa.specs.Program.{Program}
use Rattle.alpha_isa.specs.Behave.{start_state}
use Rattle.alpha_run.specs.declared.ending.Ending.{Ending}
use Rattle.alpha_run.specs.declared.ending.Ending.TheVariants.{Done, InputFault, WriteFault}
use Rattle.alpha_run.specs.Run.{ImageGives, steps_in}
use Rattle.call_outcomes.specs.declared.outcome.Outcome.{Outcome}
use Rattle.call_outcomes.specs.declared.outcome.Outcome.TheVariants.{NoMemory}
use Rattle.call_outcomes.specs.FromFile.{Does}
use Rattle.call_words.specs.declared.compile_options.Generation.{Generation}
use Rattle.call_words.specs.declared.compile_options.MachineLimits.{MachineLimits}
use Rattle.call_images.specs.RunImage.{outcome_of_ending}
use Rattle.compile_calls.specs.Compile.{RefusesText}
use Rattle.compile_calls.specs.Images.{IsImageOfShortText}
use Rattle.compile_calls.specs.Print.{WritesText}
use Rattle.work_gen.specs.Generator.{generated_text}
use Rattle.compile_calls.specs.declared.summary.Summary.{Summary}
use Rattle.compile_calls.specs.Summary.{summary_text}

-- The summary of a text, whose image put these bytes on an empty input and ended with this status. A count stays at
-- 2^64 - 1.
abbrev pub summary_of : MachineLimits → (text : List ℕ) → (image : Program) → (put : List ℕ) → (status : ℕ) → Summary
summary_of limits text image put status = record {
  text = length text;
  words = length image.words;
  steps = count_plus (steps_in image limits.budget (start_state image limits.stack [])) 0;
  output = count_plus (length put) 0;
  status = status;
}

-- what is answered and written where the run of the image has this ending, behind these bytes
abbrev pub TellsEnding : MachineLimits → List ℕ → Program → List ℕ → Ending → Outcome → Option (List ℕ) →
    Option (List ℕ) → Type 0
TellsEnding limits text image put (Done status) answer old new =
    WritesText (summary_text (summary_of limits text image put status)) answer old new
TellsEnding limits text image put InputFault answer old new = ⊥
TellsEnding limits text image put WriteFault answer old new = ⊥
TellsEnding limits text image put ending answer old new =
    (answer ≡ outcome_of_ending limits.budget ending) × (new ≡ old)

-- The image of a text is run on an empty input and its output forgotten, by the behaviour of images: where it ends with
-- a status the summary is written, and else its ending is answered; or memory is short.
abbrev pub RunsGenerated : MachineLimits → List ℕ → Program → Outcome → Option (List ℕ) → Option (List ℕ) → Type 0
RunsGenerated limits text image answer old new =
    ((answer ≡ NoMemory) × (new ≡ old) × MemoryIsShort)
    ⊎ ((ending : Ending) × (put : List ℕ) × ImageGives image limits.stack [] limits.budget ending put
    × TellsEnding limits text image put ending answer old new)

-- What is answered for a text: its image is run, or there is none.
abbrev pub RunsTextOf : Generation → List ℕ → Outcome → Option (List ℕ) → Option (List ℕ) → Type 0
RunsTextOf g text =
    Does (RefusesText (Some text)) (IsImageOfShortText text g.options.allocator) (RunsGenerated g.limits text)

-- What `gen` answers, and what the output took, by the text that the seed and the size give.
abbrev pub Generates : Generation → Outcome → Option (List ℕ) → Option (List ℕ) → Type 0
Generates g = RunsTextOf g (generated_text g.seed g.size)
