-- A specifier, a construct further in.
use Rattle.std.proofs.Common.{◌≡◌, ℕ, zero, suc, ◌-◌, ◌<◌, List, length, ap, arith}
use Rattle.c_lexer.specs.Pieces.{Lexeme}
use Rattle.c_parser_grammar.specs.WordSets.{no_words}
use Rattle.c_parser_grammar.specs.Tokens.{TypeNames}
use Rattle.c_parser_grammar.specs.ParseExpr.{words_from, specifier_behind, specifier_from}
use Rattle.c_parser_grammar.specs.ParseSpecifiers.{tag_or_body, specifier}

pub specifier_deeper : (s : TypeNames) (n : ℕ) (ts : List Lexeme) → 0 < n
    → specifier s n ts ≡ specifier_behind s (tag_or_body s (n - 1) (specifier s (n - 1))) (words_from (length ts) no_words ts).0 (words_from (length ts) no_words ts).1
unfolding specifier specifier_from
specifier_deeper s zero ts some = absurd (omega arith)
specifier_deeper s (suc n) ts some =
    let e : n ≡ suc n - 1 = omega arith in
    ap (λ m. specifier_behind s (tag_or_body s m (specifier s m)) (words_from (length ts) no_words ts).0 (words_from (length ts) no_words ts).1) e
