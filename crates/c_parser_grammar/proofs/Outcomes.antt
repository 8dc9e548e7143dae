-- What an outcome says, and what a test of a token says.
use Rattle.std.proofs.Common.{◌≡◌, Bool, true, false, List, ◌∷◌, Ok, Err, refl, ap, ◌∙◌, subst}
use Rattle.std.proofs.lemmas.Bool.{false≢true}
use denote.Enum.Bare.{same_true, true_same}
use Rattle.c_lexer.specs.contracts.token.Keyword as keyword
use Rattle.c_lexer.specs.contracts.token.Punct as punct
use Rattle.c_lexer.specs.declared.token.TokenKind.{TokenKind}
use Rattle.c_lexer.specs.declared.token.TokenKind.TheVariants as k
use Rattle.c_lexer.specs.declared.token.Keyword.{Keyword}
use Rattle.c_lexer.specs.declared.token.Punct.{Punct}
use Rattle.c_lexer.specs.Pieces.{Lexeme}
use Rattle.c_parser_grammar.specs.Tokens.{is_mark, is_keyword, is_name_token, is_text}
use Rattle.c_parser_grammar.specs.Parser.{ParseOutcome, Parser, and_then, expect, expect_word}

IsErr : {A : Type 0} → ParseOutcome A → Type 0
IsErr (Ok p) = ⊥
IsErr (Err ts) = Unit {0}

pub no_ok : {A X : Type 0} {ts : List Lexeme} {p : A × List Lexeme} → ◌≡◌ {A = ParseOutcome A} (Err ts) (Ok p) → X
unfolding IsErr
no_ok {A} e = absurd (subst (λ o. IsErr {A = A} o) e tt)

IsOk : {A : Type 0} → ParseOutcome A → Type 0
IsOk (Ok p) = Unit {0}
IsOk (Err ts) = ⊥

pub no_err : {A X : Type 0} {p : A × List Lexeme} {ts : List Lexeme} → ◌≡◌ {A = ParseOutcome A} (Ok p) (Err ts) → X
unfolding IsOk
no_err {A} e = absurd (subst (λ o. IsOk {A = A} o) e tt)

pub no_true : {X : Type 0} → false ≡ true → X
no_true e = absurd (false≢true e)

pub same_ok : {A : Type 0} {p q : A × List Lexeme} → ◌≡◌ {A = ParseOutcome A} (Ok p) (Ok q) → p ≡ q
same_ok e = cc

pub same_err : {A : Type 0} {r q : List Lexeme} → ◌≡◌ {A = ParseOutcome A} (Err r) (Err q) → r ≡ q
same_err e = cc

-- a test that cannot hold
pub fails : (b : Bool) → (b ≡ true → ⊥) → b ≡ false
fails true f = absurd (f refl)
fails false f = refl

-- a step that succeeds
pub then_ok : {A B : Type 0} (o : ParseOutcome A) (f : A → Parser B) (x : A) (r : List Lexeme) (z : ParseOutcome B) → o ≡ Ok (x, r) → f x r ≡ z → and_then o f ≡ z
then_ok o f x r z e g = ap (λ o. and_then o f) e ∙ g

pub mark_is : (m : Punct) (kind : TokenKind) → is_mark m kind ≡ true → kind ≡ k.Mark m
mark_is m (k.Mark q) e = ap k.Mark (same_true punct.the_type tt q m e)
mark_is m _ e = no_true e

pub is_mark_of : (m : Punct) (kind : TokenKind) → kind ≡ k.Mark m → is_mark m kind ≡ true
is_mark_of m kind e = ap (is_mark m) e ∙ true_same punct.the_type m m refl

pub word_is : (w : Keyword) (kind : TokenKind) → is_keyword w kind ≡ true → kind ≡ k.Word w
word_is w (k.Word v) e = ap k.Word (same_true keyword.the_type tt v w e)
word_is w _ e = no_true e

pub is_word_of : (w : Keyword) (kind : TokenKind) → kind ≡ k.Word w → is_keyword w kind ≡ true
is_word_of w kind e = ap (is_keyword w) e ∙ true_same keyword.the_type w w refl

pub name_is : (kind : TokenKind) → is_name_token kind ≡ true → kind ≡ k.Name
name_is k.Name e = refl
name_is _ e = no_true e

pub text_is : (kind : TokenKind) → is_text kind ≡ true → kind ≡ k.Text
text_is k.Text e = refl
text_is _ e = no_true e

pub expect_at : (t : Lexeme) (r : List Lexeme) (m : Punct) → t.kind ≡ k.Mark m → expect m (t ∷ r) ≡ Ok (tt, r)
unfolding expect
expect_at t r m e = rw (is_mark_of m t.kind e) refl

pub expect_word_at : (t : Lexeme) (r : List Lexeme) (w : Keyword) → t.kind ≡ k.Word w → expect_word w (t ∷ r) ≡ Ok (tt, r)
unfolding expect_word
expect_word_at t r w e = rw (is_word_of w t.kind e) refl
