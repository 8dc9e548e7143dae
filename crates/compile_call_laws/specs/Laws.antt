-- What the commands that compile answer for a text is what the text means (C99 5.1.2.3).
use Rattle.std.specs.Prelude.{◌≡◌, ◌≢◌, ℕ, ◌<◌, ◌≤◌, ◌⊎◌, List, All, length, Option, Some}
use Rattle.bk_memory.specs.Shortage.{MemoryIsShort}
use Rattle.bk_io.specs.Outside.{taken_with, Traffic, OnInput}
use Rattle.machine_model.specs.Laws.{IsPrefix}
use Rattle.mem_model.specs.Bytes.{AreBytes}
use Rattle.alpha_isa.specs.Program.{Program, IsLawful}
use Rattle.alpha_isa.specs.Behave.{IsStack}
use Rattle.alpha_isa.specs.ImageFormat.{image_spelling}
use Rattle.c_mean.specs.Behaviour as c
use Rattle.c_mean.specs.Behaviour.{Meaning, CBehaviour, Good, output_of}
use Rattle.c_lexer.specs.Limits.{text_limit}
use Rattle.c_tree.specs.declared.declarations.TranslationUnit.{TranslationUnit}
use Rattle.c_parser.specs.Reading.{IsTooDeep}
use Rattle.c_typed_tree.specs.declared.units.TypedUnit.{TypedUnit}
use Rattle.c_typed_tree.specs.Weight.{unit_weight}
use Rattle.c_semantics.specs.Behaves.{meaning, behave_c, IsEnded}
use Rattle.call_outcomes.specs.declared.outcome.Outcome.{Outcome}
use Rattle.call_outcomes.specs.declared.outcome.Outcome.TheVariants.{Built, Ran, Trapped, Budget, FileFault, InputFault, WriteFault, NoMemory}
use Rattle.call_outcomes.specs.FromFile.{IsCause}
use Rattle.call_outcomes.specs.Output.{PutsBytes}
use Rattle.call_words.specs.declared.compile_options.Allocator.{Allocator}
use Rattle.call_words.specs.declared.compile_options.MachineLimits.{MachineLimits}
use Rattle.compile_calls.specs.Units.{IsUnitWithin}
use Rattle.compile_calls.specs.Correct.{IsCorrectFor}
use Rattle.compile_calls.specs.Compile.{RefusesText}
use Rattle.compile_calls.specs.Build.{Builds}
use Rattle.compile_calls.specs.Run.{Runs, enough_steps}
use Rattle.compile_calls.specs.Vm.{RunsText}

-- the text is within the limit, and has this unit, within the limits of weight and of data
pub record HasUnit (text : List ℕ) (unit : TypedUnit) : Type 0 where
  pub low : length text ≤ text_limit
  pub tree : TranslationUnit
  pub is_unit : IsUnitWithin text tree unit

-- why there is no memory for a text: it is short, or the text is deeper than is taken
abbrev pub IsShortFor : List ℕ → Type 0
IsShortFor text = MemoryIsShort ⊎ IsTooDeep text

abbrev pub TextsWithAUnitAreNotRefused : Type 0
TextsWithAUnitAreNotRefused =
    (text : List ℕ) (unit : TypedUnit) (answer : Outcome) → HasUnit text unit →
    IsCause (RefusesText (Some text)) answer → (answer ≡ FileFault) ⊎ ((answer ≡ NoMemory) × IsShortFor text)

-- ---- `build`

-- What is written for a unit: the bytes of an image that is right for the unit, or a front of them where the output
-- fails; or the file is not read, or memory is short, and nothing is.
pub data WritesUnit (text : List ℕ) (unit : TypedUnit) (answer : Outcome) (old new : Option (List ℕ)) : Type 0 where
  image : (p : Program) → IsLawful p → IsCorrectFor unit p →
      PutsBytes Built (image_spelling p) answer old new → WritesUnit text unit answer old new
  file_fault : answer ≡ FileFault → new ≡ old → WritesUnit text unit answer old new
  no_memory : answer ≡ NoMemory → new ≡ old → IsShortFor text → WritesUnit text unit answer old new

abbrev pub BuildWritesWhatTheTextMeans : Type 0
BuildWritesWhatTheTextMeans =
    (text : List ℕ) (unit : TypedUnit) (answer : Outcome) (old new : Option (List ℕ)) →
    HasUnit text unit → Builds (Some text) answer old new → WritesUnit text unit answer old new

-- ---- `run`

-- a front was put of what a program puts within some number of turns
pub record PutsFront (m : Meaning) (input : List ℕ) (before after : Option (List ℕ)) : Type 0 where
  pub turns : ℕ
  pub put : List ℕ
  pub front : IsPrefix put (output_of (m.behave input turns))
  pub taken : after ≡ taken_with put before

-- so many steps are fewer than are enough for a unit on an input: it never ends, or in more turns
abbrev pub AreTooFew : TypedUnit → (input : List ℕ) → (budget : ℕ) → Type 0
AreTooFew unit input budget =
    (turns : ℕ) → IsEnded (behave_c unit input turns) → budget < enough_steps (unit_weight unit) turns

-- What a run of so many steps may do for a unit on an input: it ends or traps as the unit does, and puts what that
-- puts; or a front of that, where the steps are too few, or the input or the output fails; or the file is not read, or
-- memory is short, and nothing is done.
pub data RunsUnit (text : List ℕ) (unit : TypedUnit) (input : List ℕ) (budget : ℕ) (before after : Traffic) :
    Outcome → Type 0 where
  ran : (turns : ℕ) (output : List ℕ) (status : ℕ) → behave_c unit input turns ≡ c.Done output status →
      after.taken ≡ taken_with output before.taken → RunsUnit text unit input budget before after (Ran status)
  trapped : (turns : ℕ) (output : List ℕ) (code : ℕ) → behave_c unit input turns ≡ c.Trap output code →
      after.taken ≡ taken_with output before.taken → RunsUnit text unit input budget before after (Trapped code)
  out_of_steps : PutsFront (meaning unit) input before.taken after.taken → AreTooFew unit input budget →
      RunsUnit text unit input budget before after (Budget budget)
  input_fault : PutsFront (meaning unit) input before.taken after.taken →
      RunsUnit text unit input budget before after InputFault
  write_fault : PutsFront (meaning unit) input before.taken after.taken →
      RunsUnit text unit input budget before after WriteFault
  file_fault : after ≡ before → RunsUnit text unit input budget before after FileFault
  no_memory : after ≡ before → IsShortFor text → RunsUnit text unit input budget before after NoMemory

-- what is due on an input of bytes, where the unit promises something on it
abbrev pub RunsUnitOn : (text : List ℕ) → TypedUnit → MachineLimits → Outcome → Traffic → Traffic →
    (input rest : List ℕ) → Type 0
RunsUnitOn text unit limits answer before after input rest =
    AreBytes input → Good (meaning unit) input limits.stack → RunsUnit text unit input limits.budget before after answer

abbrev pub RunDoesWhatTheTextMeans : Type 0
RunDoesWhatTheTextMeans =
    (text : List ℕ) (unit : TypedUnit) (limits : MachineLimits) (answer : Outcome) (before after : Traffic) →
    HasUnit text unit → IsStack limits.stack → Runs limits (Some text) answer before after →
    OnInput before.left after.left (RunsUnitOn text unit limits answer before after)

-- ---- `vm`

-- the outcome of a behaviour within so many turns; one that is undefined has none
abbrev pub IsOutcomeOf : (turns : ℕ) → CBehaviour → Outcome → Type 0
IsOutcomeOf turns (c.Done output status) answer = answer ≡ Ran status
IsOutcomeOf turns (c.Trap output code) answer = answer ≡ Trapped code
IsOutcomeOf turns c.Undefined answer = ⊥
IsOutcomeOf turns (c.More output) answer = answer ≡ Budget turns

-- a front was put of what a behaviour puts
abbrev pub PutsFrontOf : CBehaviour → (before after : Option (List ℕ)) → Type 0
PutsFrontOf b before after = (put : List ℕ) × IsPrefix put (output_of b) × (after ≡ taken_with put before)

-- What may be answered for a unit that behaves so within so many turns: the outcome of that, where the output took all
-- that the unit puts; or a front of that was put, where the input or the output fails, or memory gets short; or the file
-- is not read, or memory is short, and nothing is done.
pub data AnswersAs (text : List ℕ) (turns : ℕ) (b : CBehaviour) (before after : Traffic) (answer : Outcome) :
    Type 0 where
  as_meant : IsOutcomeOf turns b answer → after.taken ≡ taken_with (output_of b) before.taken →
      AnswersAs text turns b before after answer
  input_fault : answer ≡ InputFault → PutsFrontOf b before.taken after.taken →
      AnswersAs text turns b before after answer
  write_fault : answer ≡ WriteFault → PutsFrontOf b before.taken after.taken →
      AnswersAs text turns b before after answer
  short_later : answer ≡ NoMemory → MemoryIsShort → PutsFrontOf b before.taken after.taken →
      AnswersAs text turns b before after answer
  file_fault : answer ≡ FileFault → after ≡ before → AnswersAs text turns b before after answer
  no_memory : answer ≡ NoMemory → after ≡ before → IsShortFor text → AnswersAs text turns b before after answer

-- what is due on an input of bytes, where the unit's behaviour on it is defined
abbrev pub AnswersOn : (text : List ℕ) → TypedUnit → (turns : ℕ) → Outcome → Traffic → Traffic →
    (input rest : List ℕ) → Type 0
AnswersOn text unit turns answer before after input rest =
    All (λ byte. byte < 256) input → behave_c unit input turns ≢ c.Undefined →
    AnswersAs text turns (behave_c unit input turns) before after answer

abbrev pub VmAnswersAsTheTextMeans : Type 0
VmAnswersAsTheTextMeans =
    (text : List ℕ) (unit : TypedUnit) (allocator : Allocator) (turns : ℕ) (answer : Outcome)
    (before after : Traffic) → HasUnit text unit → RunsText allocator turns (Some text) answer before after →
    OnInput before.left after.left (AnswersOn text unit turns answer before after)
