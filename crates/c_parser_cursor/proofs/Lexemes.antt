-- As many lexemes as tokens.
use Rattle.std.proofs.Common.{◌≡◌, ℕ, suc, List, [], ◌∷◌, length, refl, ap}
use Rattle.c_lexer.specs.declared.token.Token.{Token}
use Rattle.c_lexer.specs.Pieces.{lexemes}

pub length_lexemes : (text : List ℕ) (ts : List Token) → length (lexemes text ts) ≡ length ts
length_lexemes text [] = refl
length_lexemes text (t ∷ ts) = ap suc (length_lexemes text ts)
