-- The words of a call as a simple command of the crate clap. COMMAND is required and FILE optional, both by their
-- place. Each option has one value and is given at most once. There are no flags for help and a version. Nothing else
-- is set, and all values are texts.
use Rattle.std.specs.Prelude.{Bool, true, false, List, [], ◌∷◌, Option, Some, codes, fold}
use Rattle.clap.specs.Simple.{on_top}
use Rattle.clap.specs.Words.{App, Kinds, Row, Rule, Text, fault_of, first_of, matches_of, new_app, new_rule, with_rule}
use Rattle.call_words.specs.declared.request.OptionName.{OptionName}
use Rattle.call_words.specs.declared.request.OptionName.TheVariants as option

-- the names of the places and of the options
abbrev pub command_id : Text
command_id = codes "COMMAND"

abbrev pub file_id : Text
file_id = codes "FILE"

abbrev pub option_id : OptionName → Text
option_id option.Pass = codes "pass"
option_id option.Alloc = codes "alloc"
option_id option.Stack = codes "stack"
option_id option.Budget = codes "budget"
option_id option.Seed = codes "seed"
option_id option.Size = codes "size"

-- `--NAME VALUE` or `--NAME=VALUE`
abbrev pub option_rule : OptionName → Rule
option_rule name = record (new_rule (option_id name)) { long = Some (option_id name) }

-- COMMAND, and FILE
abbrev pub command_rule : Rule
command_rule = record (new_rule command_id) { required = true }

abbrev pub file_rule : Rule
file_rule = new_rule file_id

-- the command line without its arguments
abbrev pub bare_line : App
bare_line = on_top (λ s. record s { disable_help_flag = true; disable_version_flag = true }) (new_app (codes "msc"))

abbrev pub command_line : App
command_line =
    fold with_rule bare_line (command_rule ∷ file_rule ∷ option_rule option.Pass ∷ option_rule option.Alloc
    ∷ option_rule option.Stack
    ∷ option_rule option.Budget ∷ option_rule option.Seed ∷ option_rule option.Size ∷ [])

-- no kind of fault
abbrev pub has_none : Kinds → Bool
has_none [] = true
has_none (kind ∷ kinds) = false

-- The words, of which the first is the program's name, are well by the crate's definition: a parse fails only for
-- want of memory.
abbrev pub are_well : List Text → Bool
are_well words = has_none (fault_of command_line words)

-- what the words give: the values of each argument
abbrev pub rows_in : List Text → List Row
rows_in words = matches_of command_line words

abbrev pub command_in : List Row → Option Text
command_in rows = first_of command_id rows

abbrev pub file_in : List Row → Option Text
file_in rows = first_of file_id rows

abbrev pub option_in : OptionName → List Row → Option Text
option_in name rows = first_of (option_id name) rows
