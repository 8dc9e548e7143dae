-- How many constructs of a list of tokens are open at once: what stands in brackets, the operand behind an operator or
-- behind a `)` as of a cast, what stands between a `?` and its `:`, and the statement under `if`, `else`, `while`,
-- `do`, `for` or `switch`. The tokens alone say where each begins, and where it has ended at the latest. In lists of
-- constructs the innermost one stands first.
use Rattle.std.specs.Prelude.{ℕ, max, Bool, true, false, if◌then◌else◌, List, [], ◌∷◌, length, map}
use Rattle.c_lexer.specs.declared.token.Token.{Token}
use Rattle.c_lexer.specs.declared.token.TokenKind.{TokenKind}
use Rattle.c_lexer.specs.declared.token.TokenKind.TheVariants as k
use Rattle.c_lexer.specs.declared.token.Keyword.{Keyword}
use Rattle.c_lexer.specs.declared.token.Keyword.TheVariants as w
use Rattle.c_lexer.specs.declared.token.Punct.{Punct}
use Rattle.c_lexer.specs.declared.token.Punct.TheVariants as p
use Rattle.c_lexer.specs.Pieces.{Lexeme}
use Rattle.c_parser_nesting.specs.declared.open.Construct.{Construct}
use Rattle.c_parser_nesting.specs.declared.open.Construct.TheVariants as c
use Rattle.c_parser_nesting.specs.declared.open.End.{End}
use Rattle.c_parser_nesting.specs.declared.open.End.TheVariants as e

-- ---- what ends

-- A closing bracket ends its brackets, a `:` what its `?` began, the end of a statement before `else` the statement
-- under the nearest `if`, and before `while` the one under the nearest `do`, each with all inside it.
abbrev pub is_outermost : End → Construct → Bool
is_outermost e.Bracket c.Brackets = true
is_outermost e.Colon c.Choice = true
is_outermost e.BeforeElse c.If = true
is_outermost e.BeforeWhile c.Do = true
is_outermost _ _ = false

-- A `,` ends operands alone. But for a closing bracket nothing ends what stands around the innermost brackets.
abbrev pub stays : End → Construct → Bool
stays e.Bracket _ = false
stays e.Comma c.Operand = false
stays e.Comma _ = true
stays _ c.Brackets = true
stays _ _ = false

-- what is still open behind such an end
abbrev pub behind_end : End → List Construct → List Construct
behind_end end [] = []
behind_end end (x ∷ opened) =
    if stays end x then x ∷ opened else if is_outermost end x then opened else behind_end end opened

abbrev pub statement_end : TokenKind → End
statement_end (k.Word w.Else) = e.BeforeElse
statement_end (k.Word w.While) = e.BeforeWhile
statement_end _ = e.Statement

-- ---- what a token begins and ends, before one of the kind `following`

abbrev pub behind_mark : Punct → TokenKind → List Construct → List Construct
behind_mark p.LeftParen following opened = c.Brackets ∷ opened
behind_mark p.LeftBracket following opened = c.Brackets ∷ opened
behind_mark p.LeftBrace following opened = c.Brackets ∷ opened
behind_mark p.RightParen following opened = c.Operand ∷ behind_end e.Bracket opened
behind_mark p.RightBracket following opened = behind_end e.Bracket opened
behind_mark p.RightBrace following opened = behind_end (statement_end following) (behind_end e.Bracket opened)
behind_mark p.Semicolon following opened = behind_end (statement_end following) opened
behind_mark p.Comma following opened = behind_end e.Comma opened
behind_mark p.Question following opened = c.Choice ∷ opened
behind_mark p.Colon following opened = c.Operand ∷ behind_end e.Colon opened
behind_mark _ following opened = c.Operand ∷ opened

abbrev pub behind_word : Keyword → List Construct → List Construct
behind_word w.If opened = c.If ∷ opened
behind_word w.Do opened = c.Do ∷ opened
behind_word w.Else opened = c.Statement ∷ opened
behind_word w.While opened = c.Statement ∷ opened
behind_word w.For opened = c.Statement ∷ opened
behind_word w.Switch opened = c.Statement ∷ opened
behind_word w.Sizeof opened = c.Operand ∷ opened
behind_word _ opened = opened

abbrev pub behind_token : TokenKind → TokenKind → List Construct → List Construct
behind_token (k.Mark mark) following opened = behind_mark mark following opened
behind_token (k.Word word) following opened = behind_word word opened
behind_token _ following opened = opened

-- ---- how many

abbrev pub head_kind : List TokenKind → TokenKind
head_kind [] = k.End
head_kind (kind ∷ kinds) = kind

-- the most that are open at once from here on, where these are
abbrev pub most_open_from : List Construct → List TokenKind → ℕ
most_open_from opened [] = length opened
most_open_from opened (kind ∷ kinds) =
    max (length opened) (most_open_from (behind_token kind (head_kind kinds) opened) kinds)

abbrev pub kind_of_token : Token → TokenKind
kind_of_token t = t.kind

abbrev pub kind_of_lexeme : Lexeme → TokenKind
kind_of_lexeme t = t.kind

-- the most constructs of a text's tokens that are open at once
abbrev pub open_constructs : List Lexeme → ℕ
open_constructs tokens = most_open_from [] (map kind_of_lexeme tokens)
