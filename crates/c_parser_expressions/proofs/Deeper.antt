-- An expression and a declarator, a construct further in.
use Rattle.std.proofs.Common.{◌≡◌, ℕ, zero, suc, ◌-◌, ◌<◌, List, ap, arith}
use Rattle.c_lexer.specs.Pieces.{Lexeme}
use Rattle.c_parser_grammar.specs.declared.shapes.NameRequirement.{NameRequirement}
use Rattle.c_parser_grammar.specs.Tokens.{TypeNames}
use Rattle.c_parser_grammar.specs.ParseExpr.{expr, declarator, tight, shaped_declarator}

pub expr_deeper : (s : TypeNames) (n least : ℕ) (ts : List Lexeme) → 0 < n → expr s n least ts ≡ tight s (expr s (n - 1)) (declarator s (n - 1)) least ts
unfolding expr
expr_deeper s zero least ts some = absurd (omega arith)
expr_deeper s (suc n) least ts some = let e : n ≡ suc n - 1 = omega arith in ap (λ m. tight s (expr s m) (declarator s m) least ts) e

pub declarator_deeper : (s : TypeNames) (n : ℕ) (naming : NameRequirement) (ts : List Lexeme) → 0 < n → declarator s n naming ts ≡ shaped_declarator s (expr s (n - 1)) (declarator s (n - 1)) naming ts
unfolding declarator
declarator_deeper s zero naming ts some = absurd (omega arith)
declarator_deeper s (suc n) naming ts some = let e : n ≡ suc n - 1 = omega arith in ap (λ m. shaped_declarator s (expr s m) (declarator s m) naming ts) e
