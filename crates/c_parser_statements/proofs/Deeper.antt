-- A statement, a construct further in.
use Rattle.std.proofs.Common.{◌≡◌, ℕ, zero, suc, ◌-◌, ◌<◌, List, ap, arith}
use Rattle.c_lexer.specs.Pieces.{Lexeme}
use Rattle.c_parser_grammar.specs.Tokens.{TypeNames, kind_at}
use Rattle.c_parser_grammar.specs.Classes.{head_of}
use Rattle.c_parser_grammar.specs.ParseStatements.{stmt_by, stmt}

pub stmt_deeper : (s : TypeNames) (n : ℕ) (ts : List Lexeme) → 0 < n → stmt s n ts ≡ stmt_by s n (stmt s (n - 1)) (head_of (kind_at ts)) ts
unfolding stmt
stmt_deeper s zero ts some = absurd (omega arith)
stmt_deeper s (suc n) ts some = let e : n ≡ suc n - 1 = omega arith in ap (λ m. stmt_by s (suc n) (stmt s m) (head_of (kind_at ts)) ts) e
