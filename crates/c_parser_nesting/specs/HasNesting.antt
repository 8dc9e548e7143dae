-- What a text is answered: its tokens, its nesting, or why not.
use Rattle.std.specs.Prelude.{◌≡◌, ℕ, List, length}
use Rattle.bk_memory.specs.Shortage.{MemoryIsShort}
use Rattle.c_lexer.specs.declared.token.Token.{Token}
use Rattle.c_lexer.specs.Pieces.{Toks, Tokens, FaultAt, lexemes}
use Rattle.c_parser_nesting.specs.declared.fault.ScanFault.{ScanFault}
use Rattle.c_parser_nesting.specs.declared.fault.ScanFault.TheVariants.{Lex, NoMemory}
use Rattle.c_parser_nesting.specs.declared.nesting.Role.{Role}
use Rattle.c_parser_nesting.specs.Nesting.{role_of, nesting_of}

abbrev pub role_of_token : Token → Role
role_of_token t = role_of t.kind

-- tokens of a text, with its length
abbrev pub toks_of : List ℕ → List Token → Toks
toks_of text tokens = record { items = lexemes text tokens; size = length text }

-- these are the tokens of the whole text
abbrev pub IsTokens : List ℕ → List Token → Type 0
IsTokens text tokens = Tokens text (toks_of text tokens)

-- The text is all tokens, and this is their nesting.
pub record HasNesting (text : List ℕ) (n : ℕ) : Type 0 where
  pub tokens : Toks
  pub are_tokens : Tokens text tokens
  pub nesting : n ≡ nesting_of tokens.items

-- The text has a place at which no token begins, and this is the first; or memory is short.
abbrev pub IsNoTokens : List ℕ → ScanFault → Type 0
IsNoTokens text (Lex at) = FaultAt text at
IsNoTokens text NoMemory = MemoryIsShort
