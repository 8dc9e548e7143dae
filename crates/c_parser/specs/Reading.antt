-- What a text is read as, and why it is not.
use Rattle.std.specs.Prelude.{◌≡◌, ℕ, ◌≤◌, ◌<◌, ◌⊎◌, List}
use Rattle.bk_memory.specs.Shortage.{MemoryIsShort}
use Rattle.c_lexer.specs.Pieces.{Lexeme, Toks, Tokens, FaultAt}
use Rattle.c_tree.specs.declared.declarations.TranslationUnit.{TranslationUnit}
use Rattle.c_tree.specs.Nodes.{unit_height}
use Rattle.c_parser_nesting.specs.Nesting.{nesting_of}
use Rattle.c_parser_nesting.specs.HasNesting.{HasNesting}
use Rattle.c_parser_nesting.specs.OpenConstructs.{open_constructs}
use Rattle.c_parser_grammar.specs.Units.{Reads}
use Rattle.c_parser_grammar.specs.Refused.{RefusedFrom}
use Rattle.c_parser_cursor.specs.Answers.{place_or}
use Rattle.c_parser.specs.declared.fault.ParseFault.{ParseFault}
use Rattle.c_parser.specs.declared.fault.ParseFault.TheVariants.{Lex, Nesting, Syntax, NoMemory}
use Rattle.c_parser.specs.Limits.{most_nesting, most_height, most_open}

-- The text is all tokens, of a nesting within the limit, and the unit is a reading of them (C99 6.9).
pub record IsRead (text : List ℕ) (tree : TranslationUnit) : Type 0 where
  pub toks : Toks
  pub are_tokens : Tokens text toks
  pub within : nesting_of toks.items ≤ most_nesting
  pub reads : Reads toks tree

-- The text is all tokens, of a nesting within the limit, but they have no reading: the refused token, which stands at
-- this offset, is the first that ends no front of a list with a reading. Where each front can go on, it is the text's
-- length.
pub record HasNoReading (text : List ℕ) (at : ℕ) : Type 0 where
  pub toks : Toks
  pub are_tokens : Tokens text toks
  pub within : nesting_of toks.items ≤ most_nesting
  pub none : (tree : TranslationUnit) → Reads toks tree → ⊥
  pub rest : List Lexeme
  pub refused : RefusedFrom toks.items rest
  pub place : at ≡ place_or toks.size rest

-- The text has a tree that is higher than is taken.
pub record IsTooHigh (text : List ℕ) : Type 0 where
  pub tree : TranslationUnit
  pub read : IsRead text tree
  pub high : most_height < unit_height tree

-- The text is all tokens, of a nesting within the limit, and more of its constructs are open at once than are taken.
pub record HasTooManyOpen (text : List ℕ) : Type 0 where
  pub toks : Toks
  pub are_tokens : Tokens text toks
  pub within : nesting_of toks.items ≤ most_nesting
  pub many : most_open < open_constructs toks.items

-- The text is deeper than is taken: in its tree, or in what is open at once.
abbrev pub IsTooDeep : List ℕ → Type 0
IsTooDeep text = IsTooHigh text ⊎ HasTooManyOpen text

abbrev pub IsNotRead : List ℕ → ParseFault → Type 0
IsNotRead text (Lex at) = FaultAt text at
IsNotRead text (Nesting counted) = HasNesting text counted × (most_nesting < counted)
IsNotRead text (Syntax at) = HasNoReading text at
IsNotRead text NoMemory = MemoryIsShort ⊎ IsTooDeep text
