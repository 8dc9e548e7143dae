-- A piece of a text that is a name is an identifier.
use Rattle.std.proofs.Common.{◌≡◌, ℕ, Bool, true, false, ◌&&◌, ◌==◌, IsTrue, List, [], ◌∷◌, ◌++◌, length, Option, Some, None, refl, sym, ap, ◌∙◌, if◌then◌else◌, All}
use Rattle.std.specs.List.{list_all}
use Rattle.std.specs.Option.{option_map}
use Rattle.std.proofs.lemmas.List.Elements.{All-nil, All-cons}
use Rattle.c_lexer.specs.declared.token.TokenKind.{TokenKind}
use Rattle.c_lexer.specs.declared.token.TokenKind.TheVariants as k
use Rattle.c_lexer.specs.declared.token.Keyword.{Keyword}
use Rattle.c_lexer.specs.declared.token.Punct.{Punct}
use Rattle.c_lexer.specs.declared.piece.Piece.{Piece}
use Rattle.c_lexer.specs.declared.piece.Piece.TheVariants as p
use Rattle.c_lexer.specs.Bytes.{is_blank, is_letter, is_digit, is_word_byte, is_run, is_inner}
use Rattle.c_lexer.specs.Numbers.{is_number}
use Rattle.c_lexer.specs.Literals.{char_end, text_end}
use Rattle.c_lexer.specs.Blanks.{is_linemarker}
use Rattle.c_lexer.specs.Marks.{mark_of}
use Rattle.c_lexer.specs.Words.{keyword_of, kind_by}
use Rattle.c_lexer.specs.Pieces.{is_at, is_comment, piece_if, mark_piece, piece_of, Lexeme, Pieces, Toks, Tokens}
use Rattle.c_typing_text_laws.specs.c_identifier_laws.Identifiers.{IsIdentifier}

-- ---- truth values

no_true : {X : Type 0} → false ≡ true → X
no_true h = let clash : ⊥ = cc in absurd clash

also : (a b : Bool) → IsTrue a → IsTrue b → IsTrue (a && b)
also a b h g = ap (λ x. x && b) h ∙ g

-- ---- the pieces that are names

abbrev is_name_kind : TokenKind → Bool
is_name_kind k.Name = true
is_name_kind _ = false

abbrev is_name : Option Piece → Bool
is_name (Some (p.Token kind)) = is_name_kind kind
is_name _ = false

-- of the choices that lead to no name
when_no : {X : Type 0} (b : Bool) (x : Piece) → is_name (Some x) ≡ false → IsTrue (is_name (piece_if b x)) → X
when_no true x e h = no_true (sym e ∙ h)
when_no false x e h = no_true h

mark_no : {X : Type 0} (o : Option Punct) → IsTrue (is_name (option_map (λ mark. p.Token (k.Mark mark)) o)) → X
mark_no None h = no_true h
mark_no (Some mark) h = no_true h

-- behind a test that leads to none
passed : {X : Type 0} (b : Bool) (x y : Option Piece) → (IsTrue (is_name x) → X) → (IsTrue (is_name y) → X) → IsTrue (is_name (if b then x else y)) → X
passed true x y f g h = f h
passed false x y f g h = g h

-- a word that is a name is no keyword
free_word : (o : Option Keyword) → IsTrue (is_name_kind (kind_by o)) → o ≡ None
free_word None h = refl
free_word (Some word) h = no_true h

spelled : (b : ℕ) (bytes : List ℕ) (letter all : Bool) → is_letter b ≡ letter → list_all is_word_byte bytes ≡ all → IsTrue letter → IsTrue (is_name (piece_if all (p.Token (kind_by (keyword_of (b ∷ bytes)))))) → IsIdentifier (b ∷ bytes)
spelled b bytes letter true e g first h = record {
  letters = also (is_letter b) (list_all is_word_byte bytes) (e ∙ first) g;
  no_keyword = free_word (keyword_of (b ∷ bytes)) h;
}
spelled b bytes letter false e g first h = no_true h

-- what is no letter begins no name
other : {X : Type 0} (b : ℕ) (s : List ℕ) → IsTrue (is_name (if is_digit b then piece_if (list_all is_run s && is_number (b ∷ s)) (p.Token k.Number) else if b == 39 then piece_if (is_at (char_end s) (length s)) (p.Token k.Char) else if b == 34 then piece_if (is_at (text_end s) (length s)) (p.Token k.Text) else if b == 35 then piece_if (list_all is_inner s && is_linemarker s) p.Blank else if b == 47 && is_comment s then Some p.Blank else mark_piece (b ∷ s))) → X
other b s =
    passed (is_digit b) _ _ (when_no (list_all is_run s && is_number (b ∷ s)) (p.Token k.Number) refl)
    (passed (b == 39) _ _ (when_no (is_at (char_end s) (length s)) (p.Token k.Char) refl)
    (passed (b == 34) _ _ (when_no (is_at (text_end s) (length s)) (p.Token k.Text) refl)
    (passed (b == 35) _ _ (when_no (list_all is_inner s && is_linemarker s) p.Blank refl)
    (passed (b == 47 && is_comment s) _ _ (λ h. no_true h) (mark_no (mark_of (b ∷ s)))))))

name_spelled : (s : List ℕ) → IsTrue (is_name (piece_of s)) → IsIdentifier s
unfolding piece_of
name_spelled [] h = no_true h
name_spelled (b ∷ s) h = passed (is_blank b) _ _ (when_no (list_all is_blank s) p.Blank refl) (letter (is_letter b) refl) h
  where
    letter : (x : Bool) → is_letter b ≡ x → IsTrue (is_name (if x then piece_if (list_all is_word_byte s) (p.Token (kind_by (keyword_of (b ∷ s)))) else if is_digit b then piece_if (list_all is_run s && is_number (b ∷ s)) (p.Token k.Number) else if b == 39 then piece_if (is_at (char_end s) (length s)) (p.Token k.Char) else if b == 34 then piece_if (is_at (text_end s) (length s)) (p.Token k.Text) else if b == 35 then piece_if (list_all is_inner s && is_linemarker s) p.Blank else if b == 47 && is_comment s then Some p.Blank else mark_piece (b ∷ s))) → IsIdentifier (b ∷ s)
    letter true e h = spelled b s true (list_all is_word_byte s) e refl refl h
    letter false e h = other b s h

-- ---- tokens

-- a token is the piece that its bytes spell
abbrev pub IsSpelled : Lexeme → Type 0
IsSpelled t = piece_of t.spelling ≡ Some (p.Token t.kind)

pub named_spelling : (t : Lexeme) → IsSpelled t → t.kind ≡ k.Name → IsIdentifier t.spelling
named_spelling t h kind = name_spelled t.spelling (ap is_name h ∙ ap is_name_kind kind)

abbrev pub AreSpelled : List Lexeme → Type 0
AreSpelled [] = Unit {0}
AreSpelled (t ∷ ts) = IsSpelled t × AreSpelled ts

pub both : (a b : List Lexeme) → AreSpelled (a ++ b) → AreSpelled a × AreSpelled b
both [] b h = (tt, h)
both (t ∷ a) b h = let r = both a b h.1 in ((h.0, r.0), r.1)

pieces_spelled : (text : List ℕ) {at to : ℕ} {ts : List Lexeme} → Pieces text at ts to → AreSpelled ts
pieces_spelled text Pieces.none = tt
pieces_spelled text (Pieces.blank n ts cut rest) = pieces_spelled text rest
pieces_spelled text (Pieces.token n kind ts cut rest) = (cut.begins_with.piece.is, pieces_spelled text rest)

pub tokens_spelled : (text : List ℕ) (toks : Toks) → Tokens text toks → AreSpelled toks.items
tokens_spelled text toks h = pieces_spelled text h.pieces

abbrev NamedWell : Lexeme → Type 0
NamedWell t = t.kind ≡ k.Name → IsIdentifier t.spelling

each_named : (ts : List Lexeme) → AreSpelled ts → All NamedWell ts
each_named [] h = All-nil NamedWell
each_named (t ∷ ts) h = All-cons NamedWell t ts (named_spelling t h.0) (each_named ts h.1)

pub name_tokens : (text : List ℕ) (toks : Toks) → Tokens text toks → All (λ t. t.kind ≡ k.Name → IsIdentifier t.spelling) toks.items
name_tokens text toks h = each_named toks.items (tokens_spelled text toks h)
