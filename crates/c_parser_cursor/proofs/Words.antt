-- A specifier without braces behind its words.
use Rattle.std.proofs.Common.{◌≡◌, List, length, refl}
use Rattle.c_lexer.specs.Pieces.{Lexeme}
use Rattle.c_parser_grammar.specs.WordSets.{no_words}
use Rattle.c_parser_grammar.specs.Tokens.{TypeNames}
use Rattle.c_parser_grammar.specs.ParseExpr.{words_from, specifier_behind, specifier_from, tag, plain}

pub plain_words : (s : TypeNames) (ts : List Lexeme) → plain s ts ≡ specifier_behind s (λ word at. tag word) (words_from (length ts) no_words ts).0 (words_from (length ts) no_words ts).1
unfolding plain specifier_from
plain_words s ts = refl
