-- Where a list of tokens is refused.
use Rattle.std.specs.Prelude.{◌≡◌, ℕ, List, [], ◌∷◌, ◌++◌}
use Rattle.c_lexer.specs.Pieces.{Lexeme}
use Rattle.c_tree.specs.declared.declarations.TranslationUnit.{TranslationUnit}
use Rattle.c_parser_grammar.specs.Units.{Reads}

-- Some list of tokens that begins so has a reading.
pub record CanGoOn (front : List Lexeme) : Type 0 where
  pub more : List Lexeme
  pub size : ℕ
  pub unit : TranslationUnit
  pub reads : Reads (record { items = front ++ more; size = size }) unit

-- Some list with a reading begins with the tokens before the rest, and none with these and the first token of the rest.
-- Where the rest is empty, some list with a reading begins with all of the tokens.
pub record RefusedFrom (tokens rest : List Lexeme) : Type 0 where
  pub front : List Lexeme
  pub whole : tokens ≡ front ++ rest
  pub can : CanGoOn front
  pub cannot : (t : Lexeme) (behind : List Lexeme) → rest ≡ t ∷ behind → CanGoOn (front ++ t ∷ []) → ⊥
