-- Lexemes as what a value may be stored as.
use Rattle.std.specs.Prelude.{ℕ, List, refl}
use Rattle.std.specs.Coded.{Coded, code_by, coded×, coded_ℕ, coded_list}
use Rattle.c_lexer.specs.declared.token.TokenKind.{TokenKind}
use Rattle.c_lexer.specs.contracts.token.TokenKind as kind
use Rattle.c_lexer.specs.Pieces.{Lexeme}

-- a lexeme as a tuple of its kind, its spelling, its place and its length
abbrev pub Fields : Type 0
Fields = TokenKind × (List ℕ × (ℕ × ℕ))

abbrev pub fields : Lexeme → Fields
fields t = (t.kind, (t.spelling, (t.at, t.len)))

abbrev pub of_fields : Fields → Lexeme
of_fields q = record { kind = q.0; spelling = q.1.0; at = q.1.1.0; len = q.1.1.1 }

abbrev pub fields_code : Coded Fields
fields_code = coded× kind.the_row.coded (coded× (coded_list coded_ℕ) (coded× coded_ℕ coded_ℕ))

abbrev pub lexeme_code : Coded Lexeme
lexeme_code = code_by Fields fields_code fields of_fields (λ _. refl)

abbrev pub lexemes_code : Coded (List Lexeme)
lexemes_code = coded_list lexeme_code
