-- An initialiser, a construct further in.
use Rattle.std.proofs.Common.{◌≡◌, ℕ, zero, suc, ◌-◌, ◌<◌, List, ap, arith}
use Rattle.c_lexer.specs.Pieces.{Lexeme}
use Rattle.c_parser_grammar.specs.Tokens.{TypeNames}
use Rattle.c_parser_grammar.specs.ParseUnits.{init_by, init}

pub init_deeper : (s : TypeNames) (n : ℕ) (ts : List Lexeme) → 0 < n → init s n ts ≡ init_by s n (init s (n - 1)) ts
unfolding init
init_deeper s zero ts some = absurd (omega arith)
init_deeper s (suc n) ts some = let e : n ≡ suc n - 1 = omega arith in ap (λ m. init_by s (suc n) (init s m) ts) e
