-- The line that is written for an outcome, and the status of the process.
use Rattle.std.specs.Prelude.{ℕ, List, [], ◌∷◌, ◌++◌, Option, Some, None, codes, decimal}
use Rattle.c_typing_faults.specs.declared.faults.Kind.{Kind}
use Rattle.c_typing_faults.specs.declared.faults.Kind.TheVariants as k
use Rattle.call_outcomes.specs.declared.outcome.Outcome.{Outcome}
use Rattle.call_outcomes.specs.declared.outcome.Outcome.TheVariants.{Built, Printed, Ran, Trapped, Stuck, Budget, Usage, FileFault, InputFault, WriteFault, Refused, Limit, BadImage, BadAsm, NoMemory}
use Rattle.call_outcomes.specs.declared.outcome.SourceFault.TheVariants.{Lex, Syntax, Typing}
use Rattle.call_outcomes.specs.declared.outcome.Which.TheVariants.{Text, Nesting, Weight, Data}

-- the name of a kind of typing fault
abbrev pub kind_name : Kind → List ℕ
kind_name k.MissingMain = codes "MissingMain"
kind_name k.UnknownName = codes "UnknownName"
kind_name k.Redeclared = codes "Redeclared"
kind_name k.NotDefined = codes "NotDefined"
kind_name k.BadType = codes "BadType"
kind_name k.NotConstant = codes "NotConstant"
kind_name k.BadOperand = codes "BadOperand"
kind_name k.NotAssignable = codes "NotAssignable"
kind_name k.BadConversion = codes "BadConversion"
kind_name k.NotFunction = codes "NotFunction"
kind_name k.BadCall = codes "BadCall"
kind_name k.NoMember = codes "NoMember"
kind_name k.BadLabel = codes "BadLabel"
kind_name k.BadJump = codes "BadJump"
kind_name k.BadReturn = codes "BadReturn"
kind_name k.BadLiteral = codes "BadLiteral"
kind_name k.BadInit = codes "BadInit"

-- what is said of a typing fault, before its place
abbrev pub typing_words : Kind → List ℕ
typing_words kind = codes "msc: " ++ kind_name kind ++ codes " at "

-- the whole line with its line feed, none where nothing is to be said, or what stands before a number
abbrev pub words_of : Outcome → List ℕ
words_of Built = []
words_of Printed = []
words_of (Ran status) = []
words_of Usage = codes "msc: usage\n"
words_of (Refused (Lex at)) = codes "msc: lex at "
words_of (Refused (Syntax at)) = codes "msc: syntax at "
words_of (Refused (Typing at kind)) = typing_words kind
words_of FileFault = codes "msc: file\n"
words_of (Limit Text counted) = codes "msc: limit text "
words_of (Limit Nesting counted) = codes "msc: limit nesting "
words_of (Limit Weight counted) = codes "msc: limit weight "
words_of (Limit Data counted) = codes "msc: limit data "
words_of NoMemory = codes "msc: memory\n"
words_of WriteFault = codes "msc: write\n"
words_of InputFault = codes "msc: input\n"
words_of (Budget steps) = codes "msc: budget "
words_of (BadImage at) = codes "msc: image at "
words_of (BadAsm line) = codes "msc: assembly line "
words_of (Trapped code) = codes "msc: trap "
words_of (Stuck pc) = codes "msc: stuck at "

-- the number at the end of the line
abbrev pub outcome_number : Outcome → Option ℕ
outcome_number (Budget steps) = Some steps
outcome_number (BadImage at) = Some at
outcome_number (BadAsm line) = Some line
outcome_number (Limit which counted) = Some counted
outcome_number (Refused (Lex at)) = Some at
outcome_number (Refused (Syntax at)) = Some at
outcome_number (Refused (Typing at kind)) = Some at
outcome_number (Trapped code) = Some code
outcome_number (Stuck pc) = Some pc
outcome_number _ = None

abbrev pub line_with : List ℕ → ℕ → List ℕ
line_with words n = words ++ (decimal n ++ 10 ∷ [])

abbrev pub with_number : List ℕ → Option ℕ → List ℕ
with_number words None = words
with_number words (Some n) = line_with words n

-- the bytes of the line
abbrev pub line_of : Outcome → List ℕ
line_of outcome = with_number (words_of outcome) (outcome_number outcome)

abbrev pub exit_status : Outcome → ℕ
exit_status Built = 0
exit_status Printed = 0
exit_status (Ran status) = status
exit_status Usage = 64
exit_status (Refused fault) = 65
exit_status FileFault = 66
exit_status (Limit which counted) = 69
exit_status NoMemory = 71
exit_status WriteFault = 73
exit_status InputFault = 74
exit_status (Budget steps) = 75
exit_status (BadImage at) = 76
exit_status (BadAsm line) = 77
exit_status (Trapped code) = 134
exit_status (Stuck pc) = 139
