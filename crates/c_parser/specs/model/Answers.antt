-- What functions that read ensure where they leave a scope too, or read all tokens.
use Rattle.std.specs.Prelude.{◌≡◌, ◌≢◌, List, Result, Ok, Err}
use Rattle.c_lexer.specs.Pieces.{Lexeme}
use Rattle.c_parser_cursor.specs.Answers.{ParseStopHasCause}
use Rattle.c_parser_cursor.specs.declared.cursor.ParseStop.{ParseStop}
use Rattle.c_parser_cursor.specs.declared.cursor.ParseStop.TheVariants.{NoMemory}
use Rattle.c_tree.specs.declared.declarations.External.{External}
use Rattle.c_parser_grammar.specs.Tokens.{TypeNames}
use Rattle.c_parser_grammar.specs.Parser.{ParseOutcome}

-- of a function that leaves a scope
abbrev pub AnswersIn :
    {A : Type 0} → ParseOutcome (A × TypeNames) → Result A ParseStop → TypeNames → List Lexeme → Type 0
AnswersIn outcome (Ok a) scope new = outcome ≡ Ok ((a, scope), new)
AnswersIn outcome (Err e) scope new = (e ≢ NoMemory → outcome ≡ Err new) × ParseStopHasCause e

-- of a function that reads all tokens
abbrev pub AnswersUnit :
    Result (List External) (List Lexeme) → Result (List External) ParseStop → List Lexeme → Type 0
AnswersUnit outcome (Ok a) new = outcome ≡ Ok a
AnswersUnit outcome (Err e) new = (e ≢ NoMemory → outcome ≡ Err new) × ParseStopHasCause e
