-- What a function that reads ensures: the outcome of the grammar, unless memory is short. A refusal leaves the
-- cursor at the refused token. After want of memory, which comes only of the error of an allocation, nothing is known
-- of the cursor.
use Rattle.std.specs.Prelude.{◌≡◌, ◌≢◌, ℕ, List, [], ◌∷◌, Result, Ok, Err}
use Rattle.bk_memory.specs.Shortage.{MemoryIsShort}
use Rattle.c_lexer.specs.Pieces.{Lexeme}
use Rattle.c_parser_cursor.specs.declared.cursor.ParseStop.{ParseStop}
use Rattle.c_parser_cursor.specs.declared.cursor.ParseStop.TheVariants.{Refused, NoMemory}
use Rattle.c_parser_grammar.specs.Parser.{ParseOutcome}

-- want of memory has its cause
abbrev pub ParseStopHasCause : ParseStop → Type 0
ParseStopHasCause Refused = Unit {0}
ParseStopHasCause NoMemory = MemoryIsShort

abbrev pub Answers : {A : Type 0} → ParseOutcome A → Result A ParseStop → List Lexeme → Type 0
Answers outcome (Ok a) new = outcome ≡ Ok (a, new)
Answers outcome (Err e) new = (e ≢ NoMemory → outcome ≡ Err new) × ParseStopHasCause e

-- the offset of the first of these tokens, or this one where there is none
abbrev pub place_or : ℕ → List Lexeme → ℕ
place_or end [] = end
place_or end (t ∷ ts) = t.at
