-- What the bytes of a piece are, and how the pieces cut a text (C99 6.4).
use Rattle.std.specs.Prelude.{◌≡◌, ℕ, ◌≤◌, ◌<◌, ◌+◌, Bool, true, false, not, ◌||◌, ◌&&◌, ◌==◌, if◌then◌else◌, List, [], ◌∷◌, length, take, drop, map, Option, Some, None, option_map}
use Rattle.std.specs.List.{list_all, prefix_len}
use Rattle.c_lexer.specs.declared.token.Token.{Token}
use Rattle.c_lexer.specs.declared.token.TokenKind.{TokenKind}
use Rattle.c_lexer.specs.declared.token.TokenKind.TheVariants as k
use Rattle.c_lexer.specs.declared.piece.Piece.{Piece}
use Rattle.c_lexer.specs.declared.piece.Piece.TheVariants as p
use Rattle.c_lexer.specs.Bytes.{is_blank, is_digit, is_letter, is_word_byte, is_run, is_inner}
use Rattle.c_lexer.specs.Marks.{mark_of}
use Rattle.c_lexer.specs.Words.{kind_of_word}
use Rattle.c_lexer.specs.Numbers.{is_number}
use Rattle.c_lexer.specs.Literals.{char_end, text_end}
use Rattle.c_lexer.specs.Blanks.{close_at, is_linemarker, is_line_start}

abbrev pub is_at : Option ℕ → ℕ → Bool
is_at None n = false
is_at (Some m) n = m == n

-- a comment, by what stands behind its first `/` (C99 6.4.9)
unfoldable pub is_comment : List ℕ → Bool
is_comment [] = false
is_comment (b ∷ s) = if b == 42 then is_at (close_at s) (length s) else b == 47 && list_all is_inner s

abbrev pub piece_if : Bool → Piece → Option Piece
piece_if b x = if b then Some x else None

abbrev pub mark_piece : List ℕ → Option Piece
mark_piece s = option_map (λ mark. p.Token (k.Mark mark)) (mark_of s)

-- The piece that these bytes spell: a run of blanks, a comment, a linemarker or a token.
unfoldable pub piece_of : List ℕ → Option Piece
piece_of [] = None
piece_of (b ∷ s) = if is_blank b then piece_if (list_all is_blank s) p.Blank
    else if is_letter b then piece_if (list_all is_word_byte s) (p.Token (kind_of_word (b ∷ s)))
    else if is_digit b then piece_if (list_all is_run s && is_number (b ∷ s)) (p.Token k.Number)
    else if b == 39 then piece_if (is_at (char_end s) (length s)) (p.Token k.Char)
    else if b == 34 then piece_if (is_at (text_end s) (length s)) (p.Token k.Text)
    else if b == 35 then piece_if (list_all is_inner s && is_linemarker s) p.Blank
    else if b == 47 && is_comment s then Some p.Blank
    else mark_piece (b ∷ s)

-- No longer front of the text is a piece.
pub record IsLongest (text : List ℕ) (n : ℕ) (x : Piece) : Type 0 where
  pub within : n ≤ length text
  pub is : piece_of (take n text) ≡ Some x
  pub longest : (m : ℕ) → n < m → m ≤ length text → piece_of (take m text) ≡ None

abbrev pub is_none : Option ℕ → Bool
is_none None = true
is_none (Some n) = false

abbrev pub first_passes : (ℕ → Bool) → List ℕ → Bool
first_passes test [] = false
first_passes test (b ∷ s) = test b

abbrev pub opens_comment : List ℕ → Bool
opens_comment [] = false
opens_comment (b ∷ s) = b == 42 && is_none (close_at s)

-- Where a text goes on so, no piece begins: with a run of digits, letters and points that is no integer constant, a
-- character constant or string literal that is wrong or not closed, a `#` that begins no linemarker, a comment that is
-- not closed. `first` says that only spaces and tabs stand before on the line.
unfoldable pub is_fault : Bool → List ℕ → Bool
is_fault first [] = false
is_fault first (b ∷ s) =
    if is_digit b || (b == 46 && first_passes is_digit s) then not (is_number (b ∷ take (prefix_len is_run s) s))
    else if b == 39 then is_none (char_end s)
    else if b == 34 then is_none (text_end s)
    else if b == 35 then not (first && is_linemarker (take (prefix_len is_inner s) s))
    else b == 47 && opens_comment s

-- The text begins with a piece of n bytes.
pub record Begins (first : Bool) (text : List ℕ) (n : ℕ) (x : Piece) : Type 0 where
  pub piece : IsLongest text n x
  pub sound : is_fault first text ≡ false

-- At the offset `at` of the text a piece of n bytes begins.
pub record Cuts (text : List ℕ) (at n : ℕ) (x : Piece) : Type 0 where
  pub begins_with : Begins (is_line_start (take at text)) (drop at text) n x

-- A token with its spelling.
pub record Lexeme : Type 0 where
  pub kind : TokenKind
  pub spelling : List ℕ
  pub at : ℕ
  pub len : ℕ

abbrev pub lexeme : List ℕ → Token → Lexeme
lexeme text t = record { kind = t.kind; spelling = take t.len (drop t.at text); at = t.at; len = t.len }

-- The text from one offset up to another is whole pieces, and these are their tokens.
pub data Pieces (text : List ℕ) : ℕ → List Lexeme → ℕ → Type 0 where
  none : {at : ℕ} → Pieces text at [] at
  blank : {at to : ℕ} (n : ℕ) (ts : List Lexeme) → Cuts text at n p.Blank → Pieces text (at + n) ts to →
      Pieces text at ts to
  token : {at to : ℕ} (n : ℕ) (kind : TokenKind) (ts : List Lexeme) → Cuts text at n (p.Token kind) →
      Pieces text (at + n) ts to
      → Pieces text at (lexeme text (record { kind = kind; at = at; len = n }) ∷ ts) to

-- The tokens of a text, and its length.
pub record Toks : Type 0 where
  pub items : List Lexeme
  pub size : ℕ

-- The text is cut into pieces in order, and these are its tokens.
pub record Tokens (text : List ℕ) (toks : Toks) : Type 0 where
  pub pieces : Pieces text 0 toks.items (length text)
  pub size : toks.size ≡ length text

-- No piece begins at this offset of the text.
pub record IsStuck (text : List ℕ) (at : ℕ) : Type 0 where
  pub some : at < length text
  pub none : (n : ℕ) (x : Piece) → Cuts text at n x → ⊥

-- The first place past whole pieces where no piece begins.
pub record FaultAt (text : List ℕ) (at : ℕ) : Type 0 where
  pub tokens : List Lexeme
  pub pieces : Pieces text 0 tokens at
  pub stuck : IsStuck text at

-- Tokens with their spellings.
abbrev pub lexemes : List ℕ → List Token → List Lexeme
lexemes text ts = map (lexeme text) ts
