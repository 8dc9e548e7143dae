-- Functions that read the front of a token list: what they read and the tokens behind it, or the tokens
-- from the refused one on. They look one token ahead.
use Rattle.std.specs.Prelude.{◌≡◌, ℕ, zero, suc, if◌then◌else◌, List, ◌++◌, Result, Ok, Err}
use Rattle.c_lexer.specs.declared.token.Keyword.TheVariants as w
use Rattle.c_lexer.specs.declared.token.Keyword.{Keyword}
use Rattle.c_lexer.specs.declared.token.Punct.{Punct}
use Rattle.c_lexer.specs.Pieces.{Lexeme}
use Rattle.c_parser_grammar.specs.Tokens.{is_mark, is_keyword, kind_at, token_tail}

abbrev pub ParseOutcome : Type 0 → Type 0
ParseOutcome A = Result (A × List Lexeme) (List Lexeme)

-- these tokens are the last of those
abbrev pub IsSuffix : List Lexeme → List Lexeme → Type 0
IsSuffix rest ts = (front : List Lexeme) × (ts ≡ front ++ rest)

abbrev pub Parser : Type 0 → Type 0
Parser A = List Lexeme → ParseOutcome A

abbrev pub and_then : {A B : Type 0} → ParseOutcome A → (A → Parser B) → ParseOutcome B
and_then (Ok p) f = f p.0 p.1
and_then (Err ts) f = Err ts

infixl 10 ◌>>=◌
abbrev pub ◌>>=◌ : {A B : Type 0} → Parser A → (A → Parser B) → Parser B
p >>= f = λ ts. and_then (p ts) f

abbrev pub pure : {A : Type 0} → A → Parser A
pure a = λ ts. Ok (a, ts)

unfoldable pub expect : Punct → Parser (Unit {0})
expect mark ts = if is_mark mark (kind_at ts) then Ok (tt, token_tail ts) else Err ts

unfoldable pub expect_word : Keyword → Parser (Unit {0})
expect_word word ts = if is_keyword word (kind_at ts) then Ok (tt, token_tail ts) else Err ts

-- the words `const` that stand here
unfoldable pub consts : ℕ → Parser (Unit {0})
consts zero ts = Ok (tt, ts)
consts (suc j) ts = if is_keyword w.Const (kind_at ts) then consts j (token_tail ts) else Ok (tt, ts)
