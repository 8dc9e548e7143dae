-- What a step of the lexer answers.
use Rattle.std.specs.Prelude.{◌≡◌, ◌⊎◌, ℕ, ◌+◌, List, [], length, refl}
use Rattle.std.specs.Coded.{Coded, code_by, coded×, coded_ℕ, coded_list}
use Rattle.c_lexer.specs.declared.token.TokenKind.TheVariants.{End}
use Rattle.c_lexer.specs.declared.token.Token.{Token}
use Rattle.c_lexer.specs.declared.token.LexFault.{LexFault}
use Rattle.c_lexer.specs.declared.piece.Piece.TheVariants as p
use Rattle.c_lexer.specs.Pieces.{Cuts, Pieces, IsStuck}

-- a text, and the offset in it at which a lexer stands
pub record TextPlace : Type 0 where
  pub text : List ℕ
  pub at : ℕ

abbrev pub coded_place : Coded TextPlace
coded_place =
    code_by (List ℕ × ℕ) (coded× (coded_list coded_ℕ) coded_ℕ)
    (λ p. (p.text, p.at)) (λ p. record { text = p.0; at = p.1 }) (λ _. refl)

-- the end of the text
pub record IsEndToken (text : List ℕ) (t : Token) : Type 0 where
  pub kind : t.kind ≡ End
  pub at : t.at ≡ length text
  pub len : t.len ≡ 0

-- past blanks, comments and linemarkers stands this token, or the end, and the lexer stands behind it
pub record LexerGives (old : TextPlace) (t : Token) (new : TextPlace) : Type 0 where
  pub skipped : Pieces old.text old.at [] t.at
  pub token : IsEndToken old.text t ⊎ Cuts old.text t.at t.len (p.Token t.kind)
  pub text : new.text ≡ old.text
  pub at : new.at ≡ t.at + t.len

-- past blanks, comments and linemarkers stand bytes at which no piece begins, and the lexer stands there
pub record Refuses (old : TextPlace) (f : LexFault) (new : TextPlace) : Type 0 where
  pub skipped : Pieces old.text old.at [] f.at
  pub stuck : IsStuck old.text f.at
  pub text : new.text ≡ old.text
  pub at : new.at ≡ f.at
