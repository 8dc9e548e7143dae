-- What stands in the brackets behind a declarator, as shapes.
use Rattle.std.specs.Prelude.{ℕ, if◌then◌else◌, Option, Some, None, Ok}
use Rattle.c_lexer.specs.declared.token.Punct.TheVariants as p
use Rattle.c_tree.specs.declared.expressions.Expr.{Expr}
use Rattle.c_parser_grammar.specs.Levels as levels
use Rattle.c_parser_grammar.specs.Tokens.{is_mark, kind_at, token_tail}
use Rattle.c_parser_grammar.specs.Parser.{Parser, and_then, ◌>>=◌, pure, expect}

-- the length of an array behind `[`, which may be missing, and the bracket that closes it
unfoldable pub array_length : (ℕ → Parser Expr) → Parser (Option Expr)
array_length expr ts = if is_mark p.RightBracket (kind_at ts) then Ok (None, token_tail ts)
    else and_then (expr levels.conditional ts) (λ x. expect p.RightBracket >>= λ _. pure (Some x))
