-- What tokens give, whatever they nest.
use Rattle.std.specs.Prelude.{◌≡◌, ℕ, ◌<◌, ◌⊎◌, List, Result, Ok, Err}
use Rattle.bk_memory.specs.Shortage.{MemoryIsShort}
use Rattle.c_lexer.specs.Pieces.{Lexeme, Toks}
use Rattle.c_tree.specs.declared.declarations.TranslationUnit.{TranslationUnit}
use Rattle.c_tree.specs.Nodes.{unit_height}
use Rattle.c_parser_grammar.specs.ParseUnits.{unit}
use Rattle.c_parser_cursor.specs.Answers.{place_or}
use Rattle.c_parser.specs.Limits.{most_height}
use Rattle.c_parser.specs.declared.fault.ParseFault.{ParseFault}
use Rattle.c_parser.specs.declared.fault.ParseFault.TheVariants.{Lex, Nesting, Syntax, NoMemory}

-- The tokens are refused from one on, which stands at this offset, or behind the last, at the text's length.
pub record IsRefused (toks : Toks) (at : ℕ) : Type 0 where
  pub rest : List Lexeme
  pub refused : unit toks ≡ Err rest
  pub place : at ≡ place_or toks.size rest

-- The tokens spell a tree that is higher than is taken.
pub record IsHigh (toks : Toks) : Type 0 where
  pub tree : TranslationUnit
  pub spelled : unit toks ≡ Ok tree
  pub high : most_height < unit_height tree

abbrev pub Gives : Toks → Result TranslationUnit ParseFault → Type 0
Gives toks (Ok tree) = unit toks ≡ Ok tree
Gives toks (Err (Lex at)) = ⊥
Gives toks (Err (Nesting counted)) = ⊥
Gives toks (Err (Syntax at)) = IsRefused toks at
Gives toks (Err NoMemory) = MemoryIsShort ⊎ IsHigh toks
