-- What the words of a call ask for.
use Rattle.std.specs.Prelude.{◌≡◌, ℕ, List, [], ◌∷◌, Option, Some, None, if◌then◌else◌, is_some, option_map, option_and_then, codes, bytes_eq}
use Rattle.bk_memory.specs.Shortage.{MemoryIsShort}
use Rattle.alpha_isa.specs.Behave.{IsStack}
use Rattle.clap.specs.Words.{Row}
use Rattle.call_words.specs.declared.read.WordsFault.{WordsFault}
use Rattle.call_words.specs.declared.read.WordsFault.TheVariants as fault
use Rattle.call_words.specs.declared.compile_options.Generation.{Generation}
use Rattle.call_words.specs.declared.request.Command.{Command}
use Rattle.call_words.specs.declared.request.Command.TheVariants.{Build, Run, Vm, Exec, Migrate, Assemble, Print}
use Rattle.call_words.specs.declared.request.OptionName.TheVariants.{Pass, Alloc, Stack, Budget, Seed, Size}
use Rattle.call_words.specs.declared.request.Request.{Request}
use Rattle.call_words.specs.declared.request.Request.TheVariants as request
use Rattle.call_words.specs.Line.{are_well, rows_in, command_in, file_in}
use Rattle.call_words.specs.Options.{unless_given, options_in, pass_in, budget_in, limits_in, generation_in}

-- a call: a command over the file of a name, or a text that is to be made, compiled and run
pub data Call : Type 0 where
  OnFile : Command → List ℕ → Call
  Generate : Generation → Call

-- each command by its options; the others are none of it
abbrev pub build_in : List Row → Option Command
build_in rows = unless_given (Pass ∷ Stack ∷ Budget ∷ Seed ∷ Size ∷ []) rows (option_map Build (options_in rows))

abbrev pub run_in : List Row → Option Command
run_in rows =
    unless_given (Pass ∷ Seed ∷ Size ∷ []) rows
    (option_and_then (λ options. option_map (Run options) (limits_in rows)) (options_in rows))

abbrev pub vm_in : List Row → Option Command
vm_in rows = unless_given (Pass ∷ Alloc ∷ Stack ∷ Seed ∷ Size ∷ []) rows (option_map Vm (budget_in rows))

abbrev pub exec_in : List Row → Option Command
exec_in rows = unless_given (Pass ∷ Alloc ∷ Seed ∷ Size ∷ []) rows (option_map Exec (limits_in rows))

-- a command without options
abbrev pub no_options : Command → List Row → Option Command
no_options command rows = unless_given (Pass ∷ Alloc ∷ Stack ∷ Budget ∷ Seed ∷ Size ∷ []) rows (Some command)

abbrev pub print_in : List Row → Option Command
print_in rows =
    unless_given (Stack ∷ Budget ∷ Seed ∷ Size ∷ []) rows
    (option_and_then (λ pass. option_map (Print pass) (options_in rows)) (pass_in rows))

-- the command of a word
abbrev pub command_of : List ℕ → List Row → Option Command
command_of word rows =
    if bytes_eq word (codes "build") then build_in rows
    else if bytes_eq word (codes "run") then run_in rows
    else if bytes_eq word (codes "vm") then vm_in rows
    else if bytes_eq word (codes "exec") then exec_in rows
    else if bytes_eq word (codes "migrate") then no_options Migrate rows
    else if bytes_eq word (codes "assemble") then no_options Assemble rows
    else if bytes_eq word (codes "print") then print_in rows
    else None

abbrev pub with_file : Option (List ℕ) → Option Command → Option Call
with_file file command = option_and_then (λ c. option_map (OnFile c) file) command

-- `gen`, which has no file
abbrev pub generate_in : List Row → Option Call
generate_in rows =
    unless_given (Pass ∷ []) rows (if is_some (file_in rows) then None else option_map Generate (generation_in rows))

-- the call of a word
abbrev pub call_by_word : List ℕ → List Row → Option Call
call_by_word word rows =
    if bytes_eq word (codes "gen") then generate_in rows else with_file (file_in rows) (command_of word rows)

-- the call, of what the words give
abbrev pub request_in : List Row → Option Call
request_in rows = option_and_then (λ word. call_by_word word rows) (command_in rows)

-- What the words ask for: they are well by the crate clap, and what they give is a command with its file and its
-- options, or `gen` with its.
unfoldable pub request_of : List (List ℕ) → Option Call
request_of words = if are_well words then request_in (rows_in words) else None

-- why the words are not read
abbrev pub IsWordsFault : List (List ℕ) → WordsFault → Type 0
IsWordsFault words fault.Usage = request_of words ≡ None
IsWordsFault words fault.NoMemory = MemoryIsShort

-- the stack of a run is one that a machine takes
abbrev pub CommandHasStack : Command → Type 0
CommandHasStack (Run options limits) = IsStack limits.stack
CommandHasStack (Exec limits) = IsStack limits.stack
CommandHasStack _ = Unit {0}

abbrev pub HasStack : Call → Type 0
HasStack (OnFile command file) = CommandHasStack command
HasStack (Generate generation) = IsStack generation.limits.stack

-- what a request of the code asks for
abbrev pub call_is : Request → Call
call_is (request.OnFile command file) = OnFile command file.now
call_is (request.Generate generation) = Generate generation
