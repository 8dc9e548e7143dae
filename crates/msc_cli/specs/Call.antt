-- What the top call answers by its words, and what it leaves.
use Rattle.std.specs.Prelude.{◌≡◌, ◌≢◌, ◌↔◌, ◌⊎◌, Option, Some, None, IfSome, IsTrue, option_map}
use Rattle.bk_memory.specs.Shortage.{MemoryIsShort}
use Rattle.bk_io.specs.Shelf.{Shelf, is_due, after_call}
use Rattle.bk_io.specs.Outside.{Traffic}
use Rattle.call_outcomes.specs.declared.outcome.Outcome.{Outcome}
use Rattle.call_outcomes.specs.declared.outcome.Outcome.TheVariants.{Usage, FileFault, NoMemory}
use Rattle.call_outcomes.specs.FromFile.{file_bytes}
use Rattle.call_words.specs.declared.request.Command.TheVariants.{Build, Run, Vm, Exec, Migrate, Assemble, Print}
use Rattle.call_words.specs.Options.{default_allocator}
use Rattle.call_words.specs.Request.{Call, OnFile, Generate}
use Rattle.compile_calls.specs.Build.{Builds, BuildsMade}
use Rattle.compile_calls.specs.Run.{Runs, EndsWithEnoughSteps, RunsMade}
use Rattle.compile_calls.specs.Vm.{RunsText}
use Rattle.compile_calls.specs.Print.{Prints}
use Rattle.call_images.specs.RunImage.{Executes}
use Rattle.call_images.specs.MigrateImage.{Migrates}
use Rattle.compile_calls.specs.Generate.{Generates}
use Rattle.msc_cli.specs.AssembleText.{Assembles}

-- the input was not read
abbrev pub LeavesInput : Traffic → Traffic → Type 0
LeavesInput before after = (after.left ≡ before.left) × (after.made ≡ before.made)

-- ---- what a text means

-- What `build` and `run` answer by what the text of the file means, however its image is made: an image is written that
-- is right for the text, or is run, and ends where it has enough steps. Of the other commands nothing is said.
abbrev pub AnswersByMeaning : Option Call → Option Shelf → Outcome → Traffic → Traffic → Type 0
AnswersByMeaning (Some (OnFile (Build options) file)) told answer before after =
    Builds (file_bytes told file) answer before.taken after.taken × LeavesInput before after
AnswersByMeaning (Some (OnFile (Run options limits) file)) told answer before after =
    Runs limits (file_bytes told file) answer before after
    × EndsWithEnoughSteps limits (file_bytes told file) answer before after
AnswersByMeaning _ told answer before after = Unit {0}

-- Memory is short for the words, and nothing is read or put; or what they ask for is answered so.
abbrev pub AnswersWordsByMeaning : Option Call → Outcome → (told : Option Shelf) → (before after : Traffic) → Type 0
AnswersWordsByMeaning call answer told before after =
    ((answer ≡ NoMemory) × (after ≡ before) × MemoryIsShort) ⊎ AnswersByMeaning call told answer before after

-- ---- what is made of it

-- What is answered by what is asked for, with the bytes of the file where they are told, and what that did to the input
-- and the output: of a text that is compiled by what is made of it, pass by pass. Where nothing is asked for, that is
-- all.
abbrev pub AnswersCall : Option Call → Option Shelf → Outcome → Traffic → Traffic → Type 0
AnswersCall None told answer before after = (answer ≡ Usage) × (after ≡ before)
AnswersCall (Some (OnFile (Build options) file)) told answer before after =
    BuildsMade options.allocator (file_bytes told file) answer before.taken after.taken × LeavesInput before after
AnswersCall (Some (OnFile (Run options limits) file)) told answer before after =
    RunsMade options.allocator limits (file_bytes told file) answer before after
AnswersCall (Some (OnFile (Vm turns) file)) told answer before after =
    RunsText default_allocator turns (file_bytes told file) answer before after
AnswersCall (Some (OnFile (Exec limits) file)) told answer before after =
    Executes limits (file_bytes told file) answer before after
AnswersCall (Some (OnFile Migrate file)) told answer before after =
    Migrates (file_bytes told file) answer before.taken after.taken × LeavesInput before after
AnswersCall (Some (OnFile Assemble file)) told answer before after =
    Assembles (file_bytes told file) answer before.taken after.taken × LeavesInput before after
AnswersCall (Some (OnFile (Print pass options) file)) told answer before after =
    Prints options.allocator pass (file_bytes told file) answer before.taken after.taken × LeavesInput before after
AnswersCall (Some (Generate generation)) told answer before after =
    Generates generation answer before.taken after.taken × LeavesInput before after

-- a fault of the file comes exactly where its read is due to fail, and never where there is none
abbrev pub FailsWhereDue : Option Call → Option Shelf → Outcome → Type 0
FailsWhereDue None told answer = Unit {0}
FailsWhereDue (Some (OnFile command file)) told answer =
    IfSome told (λ shelf. (answer ≡ FileFault) ↔ IsTrue (is_due shelf file))
FailsWhereDue (Some (Generate generation)) told answer = answer ≢ FileFault

-- the files after the call: the file was read once, where one is asked for
abbrev pub told_after : Option Call → Option Shelf → Option Shelf
told_after (Some (OnFile command file)) told = option_map after_call told
told_after _ told = told

-- The call is answered, a fault of the file comes where it is due, and the file was read once.
pub record IsAnswered (call : Option Call) (answer : Outcome) (told told_new : Option Shelf) (before after : Traffic) :
    Type 0 where
  pub answers : AnswersCall call told answer before after
  pub fails : FailsWhereDue call told answer
  pub told_is : told_new ≡ told_after call told

-- Memory is short for the words, and nothing is read or put; or what they ask for is answered.
abbrev pub AnswersWords : Option Call → Outcome → (told told_new : Option Shelf) → (before after : Traffic) → Type 0
AnswersWords call answer told told_new before after =
    ((answer ≡ NoMemory) × (told_new ≡ told) × (after ≡ before) × MemoryIsShort)
    ⊎ IsAnswered call answer told told_new before after
